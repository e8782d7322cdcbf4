-- `mailbox_address::route::address_in` meets its contract.
-- Assumes nothing.
use Rattle.std.proofs.Common.{◌∙◌, arith, sym}
use Rattle.std.proofs.lemmas.Result.{err_from_is_err_and}
use Rattle.lexical.specs.Answers.{tokens_of}
use Rattle.mailbox_address.specs.Grammar.{addr_spec}
use Rattle.mailbox_address.proofs.Laws.Spec.{close_it, close_none, close_other, unread}
use Rattle.mailbox_address.proofs.route.address_in.Goals as goal

pub returns-in_err-a : goal.returns-in_err-a
returns-in_err-a c =
    let a = c.args in
    let p = err_from_is_err_and c.from_residual.result c.from_residual.ensures.1 in
    let r = c.in_err-a.ensures in
    rw (p.1, p.2)
    (unread (close_none a.s.now c.addr_spec.new.dst c.in_err-a.field-0.0 (addr_spec (tokens_of a.s.now a.first)) r.told) r.stands)

pub returns-then-not-is_special : goal.returns-then-not-is_special
returns-then-not-is_special c =
    let a = c.args in
    unread
    (close_other a.s.now c.addr_spec.new.dst c.in_ok-a.a (addr_spec (tokens_of a.s.now a.first)) c.in_ok-a.ensures.told
    (sym c.is_special.ensures ∙ c.if-not-is_special.true))
    c.in_ok-a.ensures.stands

pub returns : goal.returns
returns c =
    let a = c.args in
    let p = c.in_ok-a.ensures in
    let n = c.next_token-next in
    record {
      told = close_it a.s.now c.addr_spec.new.dst c.in_ok-a.a (addr_spec (tokens_of a.s.now a.first)) p.told
          (sym c.is_special.ensures ∙ c.if-not-is_special.false) n.result n.ensures.tokens;
      stands = n.ensures.stands;
      low = omega (arith, p.low, p.stands.ordered, n.ensures.low);
      parted = p.parted;
    }
