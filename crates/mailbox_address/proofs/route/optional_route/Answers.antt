-- `mailbox_address::route::optional_route` meets its contract.
-- Assumes nothing.
use Rattle.std.proofs.Common.{◌∙◌, sym}
use Rattle.mailbox_address.specs.Answers.{told_route}
use Rattle.mailbox_address.proofs.Laws.Route.{no_route, optional_route_is}
use Rattle.mailbox_address.proofs.route.optional_route.Goals as goal

pub returns-then-is_word : goal.returns-then-is_word
unfolding told_route
returns-then-is_word c =
    let a = c.args in
    record { told = sym (no_route a.s.now a.first (sym c.is_word.ensures ∙ c.if-is_word.true)); stands = c.requires }

pub returns : goal.returns
returns c =
    let a = c.args in
    let r = c.skip_route.ensures in
    record { told = r.told ∙ sym (optional_route_is a.s.now a.first (sym c.is_word.ensures ∙ c.if-is_word.false)); stands = r.stands }
