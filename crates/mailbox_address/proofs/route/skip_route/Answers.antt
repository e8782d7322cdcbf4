-- `mailbox_address::route::skip_route` meets its contract. The loop's invariant: the route goes on from the present token as the state says.
-- Assumes nothing.
use Rattle.std.proofs.Common.{◌∙◌, arith, refl, sym, ap, List, Option}
use mathlib.Core.Option.{some}
use Rattle.std.proofs.lemmas.Result.{IfErr-at_err, err_from_is_err_and}
use Rattle.lexical.specs.Answers.{Stands}
use Rattle.lexical.specs.Tokens.{Token, tokens_at}
use Rattle.mailbox_address.specs.Answers.{route_by, route_on, told_route}
use Rattle.mailbox_address.specs.declared.route.RouteState.{RouteState}
use Rattle.mailbox_address.proofs.Laws.Route.{over_some, route-ahead, route_steps}
use Rattle.mailbox_address.proofs.route.skip_route.Goals as goal

pub loop-state-init : goal.loop-state-init
unfolding route_by
loop-state-init c = (refl, c.requires, refl)

pub returns-in_err-state : goal.returns-in_err-state
unfolding told_route route_on
returns-in_err-state c =
    let l = c.loop-state in
    let s = c.args.s.now in
    let ts = tokens_at s l.t.end in
    let p = err_from_is_err_and c.from_residual.result c.from_residual.ensures.1 in
    let k = c.in_err-state.ensures in
    rw (p.1, p.2)
    (record {
      told = sym
          (l.invariant.0 ∙ route_steps l.state s l.t l.invariant.2
          ∙ ap (λ (o : Option RouteState). route_on o ts) (sym c.route_step.ensures ∙ k.ok_part));
      stands = IfErr-at_err (Stands s) (sym (rw k.ok_part at k.value)) l.invariant.1;
    })

pub returns-then-is_over : goal.returns-then-is_over
unfolding told_route route_on
returns-then-is_over c =
    let l = c.loop-state in
    let n = c.next_token-t in
    let s = c.args.s.now in
    let ts = tokens_at s l.t.end in
    record {
      told = sym
          (l.invariant.0 ∙ route_steps l.state s l.t l.invariant.2
          ∙ ap (λ (o : Option RouteState). route_on o ts) (sym c.route_step.ensures ∙ c.in_ok-state.ensures.ok_part)
          ∙ over_some c.in_ok-state.state ts (sym c.is_over.ensures ∙ c.if-is_over.true)
          ∙ ap (λ (ts : List Token). some ts) n.ensures.tokens);
      stands = n.ensures.stands;
    }

pub loop-state-smaller : goal.loop-state-smaller
loop-state-smaller c =
    let l = c.loop-state in
    omega (
      arith,
      c.next_token-t.ensures.low,
      l.invariant.1.high,
      route-ahead l.state c.in_ok-state.state c.args.s.now l.t (sym c.in_ok-state.ensures.ok_part ∙ c.route_step.ensures) l.invariant.1,
    )

pub loop-state-preserved : goal.loop-state-preserved
unfolding route_on
loop-state-preserved c =
    let l = c.loop-state in
    let s = c.args.s.now in
    let n = c.next_token-t in (
      l.invariant.0 ∙ route_steps l.state s l.t l.invariant.2
          ∙ ap (λ (o : Option RouteState). route_on o (tokens_at s l.t.end)) (sym c.route_step.ensures ∙ c.in_ok-state.ensures.ok_part)
          ∙ ap (route_by c.in_ok-state.state) n.ensures.tokens,
      n.ensures.stands,
      sym c.is_over.ensures ∙ c.if-is_over.false,
    )
