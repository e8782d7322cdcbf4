-- `mapping_to_address::to_address::route_under` meets its contract: the levels that the row's path has, and those behind it that are domain parts.
-- Assumes nothing.
use mathlib.Core.Path.{◌≡◌, ◌∙◌}
use mathlib.Core.Bool.{Bool, true, cond}
use mathlib.Core.List.{List}
use Prim.Native.Nat.{ℕ, ◌+◌, ◌≤◌}
use native.Mathlib.Nat.{zero-add}
use native.Mathlib.Omega.{arith}
use lib.ListN.{length}
use Rattle.std.proofs.Common.{refl, Option, Some, None, unwrap_or}
use Rattle.chars.specs.Case.{same_text}
use Rattle.table.specs.Rows.{between, row_at}
use Rattle.table_lookup.specs.Lookup.{begins}
use Rattle.table_lookup.specs.Looked.{level_tokens}
use Rattle.table_lookup.specs.Tokens.{tokens_of}
use Rattle.table_lookup.proofs.Laws.Begins.{begins-length}
use Rattle.mapping.proofs.Laws.Route.{few_more, length-row, length-tokens, routed_under}
use Rattle.mapping_to_address.proofs.to_address.route_under.Goals as goal

matched : (b : Bool) (n : ℕ) (o : Option ℕ) → o ≡ cond b (Some (0 + n)) None → b ≡ true → unwrap_or o 0 ≡ n
matched b n o e h = rw (e, h) (zero-add n)

-- a path that begins the levels has no more of them than there are
few_own : (p q : List (List ℕ)) (k : ℕ) → k ≡ length p → begins p q ≡ true → length q ≡ 8 → k ≤ 8
few_own p q k e h l = omega (arith, begins-length same_text p q h)

pub invariant_of-result : goal.invariant_of-result
unfolding between row_at level_tokens
invariant_of-result c =
    let a = c.args in
    let q = tokens_of a.levels.now in
    let l = length-tokens a.levels.now.bytes.now a.levels.now.ends.now in
    let o = c.unwrap_or-own.ensures ∙ matched (begins (row_at a.text.now a.row).path q) (length (row_at a.text.now a.row).path) c.match_path-matched.result
    c.match_path-matched.ensures c.requires.begins in
    record {
      short = length-row a.text.now a.row c.requires.row_inside;
      few = few_more q c.unwrap_or-own.result c.count_extension.result l (few_own (row_at a.text.now a.row).path q c.unwrap_or-own.result o c.requires.begins l) c.count_extension.ensures;
    }

pub returns : goal.returns
unfolding row_at level_tokens
returns c =
    let a = c.args in
    let q = tokens_of a.levels.now in
    let o = c.unwrap_or-own.ensures ∙ matched (begins (row_at a.text.now a.row).path q) (length (row_at a.text.now a.row).path) c.match_path-matched.result
    c.match_path-matched.ensures c.requires.begins in
    routed_under a.text.now a.row q _ refl o c.count_extension.ensures
