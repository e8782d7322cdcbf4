-- `lexical::nesting::nests_too_deep` meets its contract. The loop's invariant: comments nest too deep in the whole text where they do from there on,
-- and not too many are open there.
-- Assumes nothing.
use Rattle.std.proofs.Common.{◌≡◌, ◌≤◌, ltb, drop}
use Rattle.lexical.specs.Nesting.{deepest, nests_too_deep}
use Rattle.lexical.proofs.nesting.nests_too_deep.Given as goal

abbrev pub invariant-loop-b : goal.invariant-loop-b
invariant-loop-b l = (nests_too_deep l.s ≡ ltb 8 (deepest l.n.skip l.n.quote l.n.depth (drop l.b-index l.s))) × (l.n.depth ≤ 8)
