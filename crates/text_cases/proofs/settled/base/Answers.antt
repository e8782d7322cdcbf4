-- `text_cases::settled::base` meets its contract: no turn adds a DD.
-- Assumes nothing.
use mathlib.Core.Path.{ap}
use Rattle.oraddr.specs.View.{domain_defined_of, text_of}
use Rattle.oraddr.specs.declared.record.Record.{Record}
use Rattle.text_cases.proofs.settled.base.Goals as goal

pub loop-k-init : goal.loop-k-init
unfolding text_of domain_defined_of
loop-k-init c = ap (λ (r : Record). r.dds.count) c.empty-rec.ensures
