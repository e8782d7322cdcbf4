-- `mailbox_address::read::addr_spec` meets its contract.
-- Assumes nothing.
use Rattle.std.proofs.Common.{◌∙◌, sym}
use Rattle.std.proofs.lemmas.Result.{err_from_is_err_and}
use Rattle.lexical.specs.Answers.{tokens_of}
use Rattle.mailbox_address.proofs.Laws.Spec.{spec_at, spec_none, spec_other, unread}
use Rattle.mailbox_address.proofs.read.addr_spec.Goals as goal

pub returns-in_err-l : goal.returns-in_err-l
returns-in_err-l c =
    let a = c.args in
    let p = err_from_is_err_and c.from_residual.result c.from_residual.ensures.1 in
    let r = c.in_err-l.ensures in
    rw (p.1, p.2) (unread (spec_none a.s.now c.read_dotted.new.dst c.in_err-l.field-0.0 (tokens_of a.s.now a.first) r.told) r.stands)

pub returns-then-not-is_special : goal.returns-then-not-is_special
returns-then-not-is_special c =
    let a = c.args in
    unread
    (spec_other a.s.now c.read_dotted.new.dst c.in_ok-l.l (tokens_of a.s.now a.first) c.in_ok-l.ensures.told
    (sym c.is_special.ensures ∙ c.if-not-is_special.true))
    c.in_ok-l.ensures.stands

pub returns : goal.returns
returns c =
    let a = c.args in
    let r = c.read_domain.ensures in
    record {
      told = r.told
          ∙ sym
          (spec_at a.s.now c.read_dotted.new.dst c.in_ok-l.l (tokens_of a.s.now a.first) c.in_ok-l.ensures.told
          (sym c.is_special.ensures ∙ c.if-not-is_special.false));
      stands = r.stands;
      low = r.low;
      parted = r.parted;
    }
