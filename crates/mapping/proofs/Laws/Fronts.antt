-- How long levels are in front of a domain, each with its dot: those of a canonical record take no more of a domain than `told_most`.
-- Assumes nothing.
use mathlib.Core.Path.{◌≡◌, refl, sym, ap, ◌∙◌}
use mathlib.Core.Bool.{Bool, true}
use mathlib.Core.List.{List, [], ◌∷◌, ◌++◌}
use Prim.Native.Nat.{ℕ, zero, suc, ◌+◌, ◌-◌, ◌*◌, ◌≤◌, zero-le}
use native.Mathlib.Omega.{arith}
use borrow.Author.Tests.{le-leb, leb-true}
use lib.Dec.{leb}
use lib.ListN.{length, take, drop, replicate, length-append, length-take}
use lib.Seq.{take-append-add, take-append-le, take-take}
use Rattle.chars.specs.Domain.{is_domain_part}
use Rattle.chars.specs.Lists.{all}
use Rattle.chars.proofs.Laws.Lists.{all_append, all_weaken, and_both, and_left, and_right, by_test}
use Rattle.chars.proofs.Laws.Seq.{drop-take}
use Rattle.oraddr.specs.Attributes.{Attributes, levels}
use Rattle.oraddr.specs.Bounds.{OU, bound_of, level_count, most, own_levels}
use Rattle.oraddr.specs.Canonical.{all_kept, canonical, is_unit, kept}
use Rattle.oraddr.proofs.Laws.Canonical.{canonical-parts}
use Rattle.oraddr.proofs.Laws.View.{value-length}
use Rattle.ortext_write.proofs.Laws.Write.{kept-within, told_most}
use Rattle.table.specs.Table.{Token}
use Rattle.table_lookup.specs.Lookup.{extension}
use Rattle.mapping.specs.Flat.{fronts}

pub fronts-append : (x y : List Token) → length (fronts (x ++ y)) ≡ length (fronts x) + length (fronts y)
unfolding fronts
fronts-append [] y = omega arith
fronts-append (p ∷ x) y =
    omega (arith, length-append (fronts (x ++ y)) (p ++ (46 ∷ [])), length-append (fronts x) (p ++ (46 ∷ [])), fronts-append x y)

pub fronts-drop : (n : ℕ) (x : List Token) → length (fronts (drop n x)) ≤ length (fronts x)
unfolding fronts
fronts-drop zero x = omega arith
fronts-drop (suc n) [] = omega arith
fronts-drop (suc n) (p ∷ x) = omega (arith, length-append (fronts x) (p ++ (46 ∷ [])), fronts-drop n x)

pub fronts-extension : (x : List Token) → length (fronts (extension x)) ≤ length (fronts x)
unfolding fronts extension
fronts-extension [] = omega arith
fronts-extension (p ∷ x) =
    let q = p ++ (46 ∷ []) in
    by_test (is_domain_part p)
    (λ e. rw e (omega (arith, length-append (fronts (extension x)) q, length-append (fronts x) q, fronts-extension x)))
    (λ e. rw e zero-le)

-- the room for n attributes that a record has once, from number k on, each with its dot
abbrev room : ℕ → ℕ → ℕ
room k zero = 0
room k (suc n) = bound_of k + 1 + room (suc k) n

fronts-kept : (k n : ℕ) (s : List Token) → all_kept k s ≡ true → length (fronts (take n s)) ≤ room k n
unfolding fronts all_kept
fronts-kept k zero s h = zero-le
fronts-kept k (suc n) [] h = zero-le
fronts-kept k (suc n) (v ∷ s) h =
    omega (arith, length-append (fronts (take n s)) (v ++ (46 ∷ [])), length-append v (46 ∷ []), kept-within k v (and_left (kept k v) (all_kept (suc k) s) h), fronts-kept (suc k) n s (and_right (kept k v) (all_kept (suc k) s) h))

-- a unit fits its bound
abbrev is_short_unit : Token → Bool
is_short_unit v = leb (length v) (bound_of OU)

fronts-units : (n : ℕ) (s : List Token) → all is_short_unit s ≡ true → length (fronts (take n s)) ≤ n * (bound_of OU + 1)
unfolding fronts all
fronts-units zero s h = zero-le
fronts-units (suc n) [] h = zero-le
fronts-units (suc n) (v ∷ s) h =
    let e = is_short_unit v in
    let p = all is_short_unit s in
    omega (arith, length-append (fronts (take n s)) (v ++ (46 ∷ [])), length-append v (46 ∷ []), leb-true (length v) (bound_of OU) (and_left e p h), fronts-units n s (and_right e p h))

-- the units and what fills up their levels
units-short : (s : List Token) → all is_unit s ≡ true → all is_short_unit (s ++ replicate most []) ≡ true
unfolding is_unit all
units-short s h =
    all_append is_short_unit s (replicate most [])
    ∙ and_both (all_weaken is_unit is_short_unit (λ v e. le-leb (length v) (bound_of OU) (value-length OU v e)) s h) refl

module _ (a : Attributes) (h : canonical a ≡ true) where
  own_room : (n : ℕ) → length (fronts (take n a.single)) ≤ room 0 n
  own_room n = fronts-kept 0 n a.single (canonical-parts a h).singles

  units-room : (n : ℕ) → length (fronts (take n (a.units ++ replicate most []))) ≤ n * (bound_of OU + 1)
  units-room n = fronts-units n (a.units ++ replicate most []) (units-short a.units (canonical-parts a h).units)

  -- all levels
  pub levels-room : length (fronts (levels a)) ≤ told_most level_count
  unfolding levels
  levels-room =
      omega (arith, fronts-append (take own_levels a.single) (take most (a.units ++ replicate most [])), own_room own_levels, units-room most)

  -- the first of them, where there are eight
  module _ (l : length (levels a) ≡ level_count) where
    own_all : length (take own_levels a.single) ≡ own_levels
    unfolding levels
    own_all =
        let u = a.units ++ replicate most [] in
        omega (arith, sym (length-append (take own_levels a.single) (take most u)) ∙ l, length-take own_levels a.single, length-take most u)

    few-room : (n : ℕ) → n ≤ own_levels → length (fronts (take n (levels a))) ≤ room 0 n
    unfolding levels
    few-room n m =
        rw (take-append-le n (take own_levels a.single) (take most (a.units ++ replicate most [])) (omega (arith, own_all)), take-take n own_levels a.single m)
        (own_room n)

    told-room : (n : ℕ) → n ≤ level_count → length (fronts (take n (levels a))) ≤ told_most n
    unfolding levels
    told-room zero m = few-room 0 (omega arith)
    told-room (suc zero) m = omega (arith, few-room 1 (omega arith))
    told-room (suc (suc zero)) m = omega (arith, few-room 2 (omega arith))
    told-room (suc (suc (suc zero))) m = omega (arith, few-room 3 (omega arith))
    told-room (suc (suc (suc (suc n)))) m =
        let x = take own_levels a.single in
        let u = a.units ++ replicate most [] in
        let e : suc (suc (suc (suc n))) ≡ length x + n = omega (arith, own_all) in
        let q : take (suc (suc (suc (suc n)))) (x ++ take most u) ≡ x ++ take n u =
        ap (λ (j : ℕ). take j (x ++ take most u)) e ∙ take-append-add x (take most u) n ∙ ap (λ (ts : List Token). x ++ ts) (take-take n most u (omega arith)) in
        omega (arith, ap (λ (ts : List Token). length (fronts ts)) q, fronts-append x (take n u), own_room own_levels, units-room n)

    -- some of them
    pub some-room : (own more : ℕ) → own + more ≤ level_count → length (fronts (take more (drop own (levels a)))) ≤ told_most (own + more)
    some-room own more m =
        let e : own + more - own ≡ more = omega arith in
        let q : drop own (take (own + more) (levels a)) ≡ take more (drop own (levels a)) = drop-take own (own + more) (levels a) ∙ ap (λ (j : ℕ). take j (drop own (levels a))) e in
        omega (arith, ap (λ (ts : List Token). length (fronts ts)) q, fronts-drop own (take (own + more) (levels a)), told-room (own + more) m)
