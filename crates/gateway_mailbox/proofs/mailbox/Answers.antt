-- `gateway_mailbox::mailbox` meets its contract.
-- Assumes nothing.
use Rattle.std.proofs.Common.{arith, refl, sym, ap, take, drop}
use native.Mathlib.Nat.{add-sub_cancel_left, zero-add}
use Rattle.mailbox.specs.Answers.{told_place}
use Rattle.mailbox.specs.Mailbox.{empty_start}
use Rattle.gateway_mailbox.proofs.Laws.Mailboxes.{place-fits, shows}
use Rattle.gateway_mailbox.proofs.mailbox.Goals as goal

pub overflow_add-end : goal.overflow_add-end
overflow_add-end c = omega (arith, place-fits c.args.line.now c.args.out.now c.read_mailbox.new.out c.in-Ok.done c.in-Ok.ensures)

pub slice_bounds-result-end : goal.slice_bounds-result-end
slice_bounds-result-end c = place-fits c.args.line.now c.args.out.now c.read_mailbox.new.out c.in-Ok.done c.in-Ok.ensures

pub returns-in-Ok : goal.returns-in-Ok
returns-in-Ok c =
    let line = c.args.line in
    let p = c.in-Ok.done.phrase in
    shows line _ c.args.out.now c.read_mailbox.new.out 0 c.in-Ok.done.size (told_place p) c.in-Ok.ensures
    (ap (λ m. take m (drop p.start line.now)) (add-sub_cancel_left p.start p.size)) refl refl

pub returns-in-Err : goal.returns-in-Err
returns-in-Err c =
    let line = c.args.line in
    shows line _ c.args.out.now c.read_mailbox.new.out c.from.result 0 empty_start (rw c.from.ensures c.in-Err.ensures)
    refl refl (sym (zero-add line.ref_ptr.1))
