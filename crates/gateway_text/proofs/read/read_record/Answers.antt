-- `gateway_text::read::read_record` meets its contract.
-- Assumes nothing.
use mathlib.Core.Path.{refl, sym, ap, ◌∙◌}
use Rattle.std.proofs.Common.{Ok, Err}
use Rattle.oraddr.specs.Add.{told}
use Rattle.oraddr.specs.declared.record.Record.{Record}
use Rattle.oraddr.specs.declared.add.Added.TheVariants.{Refused}
use Rattle.ortext_read.specs.Answers.{fault_reading, reading}
use Rattle.ortext_read.specs.Apply.{read}
use Rattle.gateway_text.proofs.Laws.Texts.{outcome-done, outcome-fault, outcome-not, read-outcome}
use Rattle.gateway_text.proofs.read.read_record.Goals.{in_default-via-in-Ok+else-is_canonical, in_default-via-in_default}
use Rattle.gateway_text.proofs.read.read_record.Goals as goal

pub returns-in-Ok : goal.returns-in-Ok
unfolding reading
returns-in-Ok c =
    let r = c.in-Ok.record in
    outcome-done r (sym c.is_canonical.ensures ∙ c.if-is_canonical.true)
    ∙ read-outcome c.empty.result c.args.text.now (Ok r) (read r) c.empty.ensures c.in-Ok.ensures refl

pub returns-in_default : goal.returns-in_default
unfolding reading
returns-in_default c =
    ap (λ (q : Record). told (record { «record» = q; answer = Refused })) c.empty-in_default.ensures
    ∙ elim c.in_default.branch [
      | in_default-via-in-Ok+else-is_canonical w ↦
          outcome-not w.in-Ok.record (sym w.is_canonical.ensures ∙ w.if-is_canonical.false)
          ∙ read-outcome c.empty.result c.args.text.now (Ok w.in-Ok.record) (read w.in-Ok.record) c.empty.ensures w.in-Ok.ensures refl
      | in_default-via-in_default w ↦
          outcome-fault w.in_default.field-0
          ∙ read-outcome c.empty.result c.args.text.now (Err w.in_default.field-0) (fault_reading w.in_default.field-0) c.empty.ensures w.in_default.ensures refl
    ]
