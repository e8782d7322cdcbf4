-- Finding the row with the longest key that begins a list of tokens, and what it settles, whatever the rows are and whatever test says
-- that two tokens are the same. (The look-ups of document 01 test case aside; the table check tests folded tokens exactly.)
-- Assumes nothing.
use Rattle.std.specs.Prelude.{Bool, true, false, ◌&&◌, length, drop}
use Rattle.std.proofs.Math.Bool.{cond}
use mathlib.Core.List.{List, [], ◌∷◌, ◌++◌}
use Rattle.std.proofs.Math.Option.{Option, none, some}
use Rattle.std.proofs.Math.Dec.{ltb}
use Rattle.table.specs.Table.{Token}

module _ (same : Token → Token → Bool) where
  -- the first list begins the second, token by token; the empty token is an omitted or an absent level
  unfoldable pub begins_by : List Token → List Token → Bool
  begins_by [] qs = true
  begins_by (p ∷ ps) [] = false
  begins_by (p ∷ ps) (q ∷ qs) = same p q && begins_by ps qs

  module _ {A : Type 0} (key : A → List Token) where
    -- the longer of a row that begins the query and the one found behind it
    unfoldable pub better_by : List Token → A → Option A → Option A
    unfolding begins_by
    better_by q r none = cond (begins_by (key r) q) (some r) none
    better_by q r (some b) = cond (begins_by (key r) q && ltb (length (key b)) (length (key r))) (some r) (some b)

    -- the row with the longest key that begins the query
    unfoldable pub look_by : List A → List Token → Option A
    unfolding better_by
    look_by [] q = none
    look_by (r ∷ rows) q = better_by q r (look_by rows q)

-- "Its path settles its levels, omitted ones too; the parts left over, right to left, fill the next levels": what the row that was found
-- tells, and what is left of the query behind its key
unfoldable pub settled_by : {A : Type 0} → (A → List Token) → (A → List Token) → List Token → Option A → Option (List Token)
settled_by key val q none = none
settled_by key val q (some r) = some (val r ++ drop (length (key r)) q)

unfoldable pub resolve_by : {A : Type 0} → (Token → Token → Bool) → (A → List Token) → (A → List Token) → List A → List Token → Option (List Token)
unfolding settled_by look_by
resolve_by same key val rows q = settled_by key val q (look_by same key rows q)
