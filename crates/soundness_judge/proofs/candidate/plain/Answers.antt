-- `soundness_judge::candidate::plain` meets its contract: the levels of the path on an empty record, and the name.
-- Assumes nothing.
use Rattle.std.proofs.Common.{ap, ◌∙◌}
use Rattle.oraddr.specs.Add.{Outcome}
use Rattle.table.specs.Rows.{row_at}
use Rattle.soundness.specs.Check.{candidate_of, with_surname}
use Rattle.soundness_judge.proofs.candidate.plain.Goals as goal

pub returns : goal.returns
unfolding candidate_of row_at
returns c = c.with_surname.ensures ∙ ap (λ (o : Outcome). with_surname o.record') c.add_path.ensures
