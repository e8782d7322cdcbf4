-- Laws of a path against a record's levels: a level that is read, and the levels from one on.
-- Assumes nothing.
use mathlib.Core.Path.{◌≡◌, refl, sym, ap}
use mathlib.Core.Bool.{true, false, cond}
use mathlib.Core.List.{List, [], ◌∷◌}
use Rattle.std.specs.Prelude.{Some, None}
use Prim.Native.Nat.{ℕ, suc, ◌+◌, ◌-◌, ◌≤◌}
use native.Mathlib.Nat.{add-zero}
use native.Mathlib.Numerals.{add-one}
use native.Mathlib.Omega.{arith}
use borrow.Author.Tests.{eq-eqb, eqb-true, ne_eqb}
use lib.Dec.{eqb}
use lib.ListN.{length, get_or}
use Rattle.chars.specs.Case.{agree, same_text}
use Rattle.chars.proofs.Laws.Lists.{bool_same, true_not_false}
use Rattle.chars.proofs.Laws.Case.{same_length}
use Rattle.table.specs.Table.{Token}
use Rattle.table.specs.Rows.{between, fields_at}
use Rattle.table_lookup.specs.Levels.{LevelFound, Levelled}
use Rattle.table_lookup.specs.Begins.{begins_by}
use Rattle.table_lookup.specs.Lookup.{begins}
use Rattle.table_lookup.specs.Looked.{Ended, KindInside, is_reached, tokens_from}
use Rattle.table_lookup.specs.declared.level.LevelKind.{LevelKind}
use Rattle.table_lookup.specs.declared.level.LevelKind.TheVariants.{Named, Omitted, NotReached}
use Rattle.table.proofs.Laws.Fields.{between-length, between_none}

-- ---- a level that is read

module _ (s : List ℕ) (at end next : ℕ) where
  pub level_past : (kind : LevelKind) → is_reached kind ≡ false → Levelled s at end next kind → fields_at s at end ≡ []
  unfolding is_reached
  level_past (Named p) h l = true_not_false true refl h
  level_past Omitted h l = true_not_false true refl h
  level_past NotReached h l = l.fields

  pub level_here : (kind : LevelKind) → is_reached kind ≡ true → Levelled s at end next kind → LevelFound s at end next kind
  unfolding is_reached
  level_here (Named p) h l = l.found
  level_here Omitted h l = l
  level_here NotReached h l = true_not_false true refl (sym h)

  pub level_inside : (kind : LevelKind) → end ≤ length s → Levelled s at end next kind → KindInside s kind
  level_inside (Named p) h l = omega (arith, l.ends, l.found.within)
  level_inside Omitted h l = tt
  level_inside NotReached h l = tt

-- an omitted level is an empty one
pub empty-same : (s : List ℕ) (c d : ℕ) → c ≤ d → d ≤ length s → eqb c d ≡ same_text [] (between s c d)
unfolding same_text agree
empty-same s c d h k =
    bool_same (eqb c d) (same_text [] (between s c d))
    (λ e. rw (between_none s c d (sym (eqb-true c d e))))
    (λ e. eq-eqb c d (omega (arith, same_length [] (between s c d) e, between-length s c d h k)))

pub nothing_same : (t : List ℕ) → eqb (length t) 0 ≡ same_text [] t
unfolding same_text agree
nothing_same [] = refl
nothing_same (x ∷ t) = ne_eqb (length (x ∷ t)) 0 (λ e. omega (arith, e))

-- ---- the levels from one on

pub ended-less : {s ends : List ℕ} {n : ℕ} (m : ℕ) → Ended s ends n → m ≤ n → Ended s ends m
ended-less m h l =
    record {
      room = omega (arith, h.room);
      ordered = λ k b. h.ordered k (omega arith);
      inside = λ k b. h.inside k (omega arith);
    }

-- how many levels a path has, with those that come before it, if it begins the levels from k on
module _ (s ends : List ℕ) (k left : ℕ) (fs : List Token) where
  pub path-none : fs ≡ [] → Some k ≡ cond (begins fs (tokens_from s ends k left)) (Some (k + length fs)) None
  unfolding begins_by
  path-none e = rw (e, add-zero k)

  module _ (f : Token) (gs : List Token) (e : fs ≡ f ∷ gs) where
    pub path_over : left ≡ 0 → None ≡ cond (begins fs (tokens_from s ends k left)) (Some (k + length fs)) None
    unfolding begins_by tokens_from
    path_over h = rw (e, h)

    more : (left ≡ 0 → ⊥) → tokens_from s ends k left ≡ between s (get_or ends k 0) (get_or ends (k + 1) 0) ∷ tokens_from s ends (k + 1) (left - 1)
    unfolding tokens_from
    more h = let z : left ≡ suc (left - 1) = omega arith in rw (add-one k) (ap (tokens_from s ends k) z)

    pub path_stop : (left ≡ 0 → ⊥) → same_text f (between s (get_or ends k 0) (get_or ends (k + 1) 0)) ≡ false
        → None ≡ cond (begins fs (tokens_from s ends k left)) (Some (k + length fs)) None
    unfolding begins_by
    path_stop h n = rw (e, more h, n)

    pub path_next : (left ≡ 0 → ⊥) → same_text f (between s (get_or ends k 0) (get_or ends (k + 1) 0)) ≡ true
        → cond (begins gs (tokens_from s ends (k + 1) (left - 1))) (Some (k + 1 + length gs)) None ≡ cond (begins fs (tokens_from s ends k left)) (Some (k + length fs)) None
    unfolding begins_by
    path_next h n = let z : k + 1 + length gs ≡ k + suc (length gs) = omega arith in rw (e, more h, n, z)
