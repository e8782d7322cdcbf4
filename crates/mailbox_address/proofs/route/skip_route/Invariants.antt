-- `mailbox_address::route::skip_route` meets its contract. The loop's invariant: the route goes on from the present token as the state says.
-- Assumes nothing.
use mathlib.Core.Path.{◌≡◌}
use mathlib.Core.Bool.{false}
use Prim.Native.Nat.{◌-◌}
use lib.ListN.{length}
use Rattle.lexical.specs.Answers.{Stands, tokens_of}
use Rattle.mailbox_address.specs.Answers.{is_over, route_by}
use Rattle.mailbox_address.specs.Grammar.{element, route}
use Rattle.mailbox_address.proofs.route.skip_route.Given as goal

abbrev pub invariant-loop-state : goal.invariant-loop-state
invariant-loop-state l =
    (route (element false) (tokens_of l.s l.initial.t) ≡ route_by l.state (tokens_of l.s l.t)) × Stands l.s l.t × (is_over l.state ≡ false)

abbrev pub decreases-loop-state : goal.decreases-loop-state
decreases-loop-state l = length l.s - l.t.start
