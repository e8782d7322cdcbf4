-- `gateway_export::pack_check` meets its contract.
-- Assumes nothing.
use Rattle.std.proofs.Common.{◌≡◌, true, Result, Err, ap, ◌∙◌, refl, arith}
use Rattle.oraddr.specs.Canonical.{canonical_record}
use Rattle.oraddr.specs.declared.record.Record.{Record}
use Rattle.soundness.specs.Check.{check_number, told_check}
use Rattle.soundness.specs.declared.answers.CheckRefusal.{CheckRefusal}
use Rattle.soundness.specs.declared.answers.CheckRefusal.TheVariants.{Malformed, Unsound}
use Rattle.gateway_export.specs.Exports.{PackableCheck}
use Rattle.gateway_export.proofs.Laws.Exports.{shown-size, tells_malformed, tells_sound, tells_witness}
use Rattle.gateway_export.proofs.pack_check.Goals as goal

-- a witness is canonical
good : (x : Result Unit CheckRefusal) (w : Record) → PackableCheck (told_check x) → x ≡ Err (Unsound w) → canonical_record w ≡ true
good x w p e = (rw e at p).canonical refl

pub overflow_mul-result : goal.overflow_mul-result
overflow_mul-result c =
    let w = c.in-Unsound.witness in
    omega (arith, shown-size w c.args.out.now c.show.new.out c.show.result (good c.args.done w c.requires (c.in-Err.is ∙ ap Err c.in-Unsound.is)) c.show.ensures)

pub overflow_add-result : goal.overflow_add-result
overflow_add-result c =
    let w = c.in-Unsound.witness in
    omega (arith, shown-size w c.args.out.now c.show.new.out c.show.result (good c.args.done w c.requires (c.in-Err.is ∙ ap Err c.in-Unsound.is)) c.show.ensures)

pub returns-in_default : goal.returns-in_default
returns-in_default c l d = tells_sound l (told_check c.args.done) c.args.out.now d (ap check_number c.in_default.is)

pub returns-in-Unsound : goal.returns-in-Unsound
returns-in-Unsound c l d =
    let w = c.in-Unsound.witness in
    let e : c.args.done ≡ Err (Unsound w) = c.in-Err.is ∙ ap Err c.in-Unsound.is in
    tells_witness l (told_check (Err (Unsound w))) c.args.out.now c.show.new.out c.show.result (rw e at d) refl c.show.ensures

pub returns-in-Malformed : goal.returns-in-Malformed
returns-in-Malformed c l d =
    let n = c.in-Malformed.line in
    let e : c.args.done ≡ Err (Malformed n) = c.in-Err.is ∙ ap Err c.in-Malformed.is in
    tells_malformed l (told_check (Err (Malformed n))) c.args.out.now (rw e at d) refl
