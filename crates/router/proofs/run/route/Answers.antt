-- `router::run::route` meets its contract.
-- Assumes nothing.
use mathlib.Core.Path.{sym, subst}
use mathlib.Core.Bool.{Bool, true}
use native.Mathlib.Omega.{arith}
use Rattle.chars.proofs.Laws.Parts.{run_le}
use Rattle.table_load.specs.Tables.{table_answer}
use Rattle.router.specs.Run.{RoutingFrom}
use Rattle.router.proofs.Laws.Run.{routing-more, routing_then, went_skip}
use Prim.Native.Nat.{◌<◌}
use lib.ListN.{length}
use Rattle.router.proofs.run.route.Goals as goal

pub returns-then-not-over : goal.returns-then-not-over
returns-then-not-over c =
    let a = c.args in
    let l = table_answer a.read.now in
    subst (λ (b : Bool). RoutingFrom l b a.input.now a.input.now a.last 0 a.out.now c.route_from.result c.route_from.new.out)
    (sym c.if-not-over.true)
    c.route_from.ensures

pub returns-then-end-input : goal.returns-then-end-input
returns-then-end-input c =
    let a = c.args in
    let l = table_answer a.read.now in
    let end = c.part_end-end.result in
    subst (λ (b : Bool). RoutingFrom l b a.input.now a.input.now a.last 0 a.out.now (record { over = true; taken = end; written = 0 }) a.out.now)
    (sym c.if-not-over.false)
    (routing-more end a.out.now (omega (arith, c.part_end-end.ensures)) c.if-end-input.true)

pub overflow_add-end : goal.overflow_add-end
overflow_add-end c = omega (arith, c.part_end-end.ensures, run_le 10 c.args.input.now, c.if-end-input.false)

pub route_from-requires-2 : goal.route_from-requires-2
route_from-requires-2 c = omega (arith, c.part_end-end.ensures, run_le 10 c.args.input.now, c.if-end-input.false)

pub returns : goal.returns
returns c =
    let a = c.args in
    let l = table_answer a.read.now in
    let end = c.part_end-end in
    let ends : end.result < length a.input.now = omega (arith, end.ensures, run_le 10 a.input.now, c.if-end-input.false) in
    subst (λ (b : Bool). RoutingFrom l b a.input.now a.input.now a.last 0 a.out.now c.route_from-2.result c.route_from-2.new.out)
    (sym c.if-not-over.false)
    (routing_then (went_skip end.result a.out.now (omega (arith, end.ensures)) ends) c.route_from-2.ensures)
