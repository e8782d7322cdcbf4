-- `mailbox_address::route::route_addr` meets its contract.
-- Assumes nothing.
use Rattle.std.proofs.Common.{◌∙◌, sym}
use Rattle.std.proofs.lemmas.Result.{err_from_is_err_and}
use Rattle.mailbox_address.proofs.Laws.Spec.{route_addr-none, route-read, route-unread, unread}
use Rattle.mailbox_address.proofs.route.route_addr.Goals as goal

pub returns-then-not-is_special : goal.returns-then-not-is_special
returns-then-not-is_special c =
    unread (route_addr-none c.args.s.now c.args.first (sym c.is_special.ensures ∙ c.if-not-is_special.true)) c.requires.stands

pub returns-in_err-t : goal.returns-in_err-t
returns-in_err-t c =
    let n = c.next_token-inner in
    let p = err_from_is_err_and c.from_residual.result c.from_residual.ensures.1 in
    let r = c.in_err-t.ensures in
    rw (p.1, p.2)
    (unread
    (route-unread c.args.s.now c.args.first n.result (sym c.is_special.ensures ∙ c.if-not-is_special.false) n.ensures.tokens c.in_err-t.field-0.0 r.told)
    r.stands)

pub returns : goal.returns
returns c =
    let n = c.next_token-inner in
    let p = c.address_in.ensures in
    record {
      told = p.told
          ∙ sym
          (route-read c.args.s.now c.args.first n.result (sym c.is_special.ensures ∙ c.if-not-is_special.false) n.ensures.tokens c.in_ok-t.t
          c.in_ok-t.ensures.told);
      stands = p.stands;
      low = p.low;
      parted = p.parted;
    }
