-- `Text::of` meets its contract: what `put` writes into a room of zeros is the struct of the text.
-- Assumes nothing.
use Rattle.oraddr.specs.View.{text_of}
use Rattle.oraddr.proofs.Laws.Text.{length_of, made_of}
use Rattle.oraddr.proofs.value.Text.of.Goals as goal

pub returns : goal.returns
unfolding text_of
returns g c =
    let wrote = c.put-len.ensures in
    rw (length_of wrote, made_of g.row.N c.requires wrote)
