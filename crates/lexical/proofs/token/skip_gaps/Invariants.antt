-- `lexical::token::skip_gaps` meets its contract. The loop's invariant: the tokens from `i` on are those from `from` on.
-- Assumes nothing.
use mathlib.Core.Path.{◌≡◌}
use Prim.Native.Nat.{◌-◌, ◌≤◌}
use lib.ListN.{length}
use Rattle.lexical.specs.Tokens.{tokens_at}
use Rattle.lexical.proofs.token.skip_gaps.Given as goal

abbrev pub invariant-loop-i : goal.invariant-loop-i
invariant-loop-i l = (l.from ≤ l.i) × (l.i ≤ length l.s) × (tokens_at l.s l.from ≡ tokens_at l.s l.i)

abbrev pub decreases-loop-i : goal.decreases-loop-i
decreases-loop-i l = length l.s - l.i
