-- `ortext_write::write::name_in` meets its contract.
-- Assumes nothing.
use mathlib.Core.Path.{◌≡◌}
use mathlib.Core.List.{[]}
use Prim.Native.Nat.{ℕ}
use lib.ListN.{get_or, get_or-map}
use Rattle.oraddr.specs.Attributes.{single_of}
use Rattle.oraddr.specs.View.{held_text, singles_view, value_view, view}
use Rattle.oraddr.specs.declared.record.Singles.{Singles}
use Rattle.ortext_write.specs.Write.{name_in}
use Rattle.ortext_write.proofs.write.name_in.Goals as goal

held_at : (s : Singles) (k : ℕ) → get_or (singles_view s) k [] ≡ held_text (get_or s.values k (record { len = 0; bytes = [] }))
unfolding singles_view
held_at s k = get_or-map value_view s.values k (record { len = 0; bytes = [] })

pub returns : goal.returns
unfolding name_in single_of view
returns c =
    let s = c.args.rec.now.singles in
    rw (c.text.ensures, c.text-2.ensures, c.text-3.ensures, held_at s 6, held_at s 7, held_at s 5)
