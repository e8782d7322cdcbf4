-- Laws of tails by whole parts: a domain's parts from the right begin another's exactly where it is a tail of the other, case aside,
-- behind a dot or all of it.
-- Assumes nothing.
use mathlib.Core.Path.{◌≡◌, refl, sym, ap, ap₂, ◌∙◌}
use mathlib.Core.Logic.{◌⊎◌, inl, inr, ⊎_elim}
use mathlib.Core.Bool.{true, false}
use mathlib.Core.List.{List, [], ◌∷◌, ◌++◌, map, append_assoc, append-nil, reverse, reverse-cons}
use Prim.Native.Nat.{ℕ, suc, ◌+◌, ◌-◌, ◌≤◌, ◌<◌}
use native.Mathlib.Omega.{arith}
use lib.ListN.{length, drop, get_or, take, length-append}
use lib.Seq.{drop-append-add, get_or-append_seam, split_at}
use Rattle.chars.specs.Lists.{all, non_empty}
use Rattle.chars.specs.Case.{fold_text, same_text}
use Rattle.chars.specs.Parts.{join, split}
use Rattle.chars.proofs.Laws.Lists.{and_both, and_left, and_right, bool_same, by_test, true_not_false}
use Rattle.chars.proofs.Laws.Case.{same_length, same_of, same-path}
use Rattle.chars.proofs.Laws.Seq.{some-append}
use Rattle.chars.proofs.Laws.Parts.{clear, join-split, split-clear, split-some}
use Rattle.mailaddr.specs.Domain.{domain_of, in_front, parts_of}
use Rattle.mailaddr.proofs.Laws.Domain.{domain-fold, domain-front, domain-parts, parts-fold, parts-front, parts-some}
use Rattle.table.specs.Table.{Token}
use Rattle.table_lookup.specs.Begins.{begins_by}
use Rattle.table_lookup.specs.Lookup.{begins}

-- ---- two texts with a dot between them

parts-joined : (qs : List Token) (t : List ℕ) → non_empty qs ≡ true → all (clear 46) qs ≡ true → parts_of (join 46 qs ++ 46 ∷ t) ≡ parts_of t ++ reverse qs
unfolding join non_empty all in_front
parts-joined [] t h k = true_not_false true refl (sym h)
parts-joined (q ∷ []) t h k = parts-front q t (and_left (clear 46 q) true k)
parts-joined (q ∷ p ∷ qs) t h k =
    ap parts_of (append_assoc q (46 ∷ join 46 (p ∷ qs)) (46 ∷ t))
    ∙ parts-front q (join 46 (p ∷ qs) ++ 46 ∷ t) (and_left (clear 46 q) (all (clear 46) (p ∷ qs)) k)
    ∙ ap (λ (l : List Token). l ++ (q ∷ [])) (parts-joined (p ∷ qs) t refl (and_right (clear 46 q) (all (clear 46) (p ∷ qs)) k))
    ∙ append_assoc (parts_of t) (reverse (p ∷ qs)) (q ∷ [])
    ∙ ap (λ (l : List Token). parts_of t ++ l) (sym (reverse-cons q (p ∷ qs)))

pub parts-append : (s t : List ℕ) → parts_of (s ++ 46 ∷ t) ≡ parts_of t ++ parts_of s
unfolding parts_of
parts-append s t =
    ap (λ (u : List ℕ). parts_of (u ++ 46 ∷ t)) (sym (join-split 46 s))
    ∙ parts-joined (split 46 s) t (split-some 46 s) (split-clear 46 s)

pub domain-append : (p r : List Token) → non_empty p ≡ true → non_empty r ≡ true → domain_of (p ++ r) ≡ domain_of r ++ 46 ∷ domain_of p
unfolding non_empty domain_of join in_front
domain-append p [] h k = true_not_false true refl (sym k)
domain-append p (x ∷ []) h k = domain-front p x h
domain-append p (x ∷ y ∷ r) h k =
    ap domain_of (sym (append_assoc p (x ∷ []) (y ∷ r)))
    ∙ domain-append (p ++ (x ∷ [])) (y ∷ r) (some-append p (x ∷ []) refl) refl
    ∙ ap (λ (t : List ℕ). domain_of (y ∷ r) ++ 46 ∷ t) (domain-front p x h)
    ∙ sym (append_assoc (domain_of (y ∷ r)) (46 ∷ x) (46 ∷ domain_of p))
    ∙ ap (λ (t : List ℕ). t ++ 46 ∷ domain_of p) (sym (domain-append (x ∷ []) (y ∷ r) refl refl))

-- ---- parts that are equal case aside

fold-begins : (ps qs r : List Token) → map fold_text ps ≡ map fold_text qs → begins ps (qs ++ r) ≡ true
unfolding begins_by
fold-begins [] qs r h = refl
fold-begins (p ∷ ps) [] r h = let z : ◌≡◌ {A = ℕ} 0 1 = cc in absurd (omega arith)
fold-begins (p ∷ ps) (q ∷ qs) r h = and_both (same_of p q (cc)) (fold-begins ps qs r (cc))

begins_cut : (ps qs : List Token) → begins ps qs ≡ true → (p : List Token) × (r : List Token) × (qs ≡ p ++ r) × (map fold_text ps ≡ map fold_text p)
unfolding begins_by
begins_cut [] qs h = ([], qs, refl, refl)
begins_cut (p ∷ ps) [] h = true_not_false true refl (sym h)
begins_cut (p ∷ ps) (q ∷ qs) h =
    let c = begins_cut ps qs (and_right (same_text p q) (begins ps qs) h) in (
      q ∷ c.0,
      c.1,
      ap (λ (t : List Token). q ∷ t) c.2,
      ap₂ (λ (x : List ℕ) (t : List Token). x ∷ t) (same-path p q (and_left (same_text p q) (begins ps qs) h)) c.3,
    )

pub fold-parts : (t a : List ℕ) → same_text t a ≡ true → map fold_text (parts_of a) ≡ map fold_text (parts_of t)
fold-parts t a h = sym (parts-fold a) ∙ ap parts_of (sym (same-path t a h)) ∙ parts-fold t

parts_same : (a : List ℕ) (p : List Token) → map fold_text (parts_of a) ≡ map fold_text p → same_text (domain_of p) a ≡ true
parts_same a p e =
    same_of (domain_of p) a
    (sym (domain-fold p) ∙ ap domain_of (sym e) ∙ domain-fold (parts_of a) ∙ ap fold_text (domain-parts a))

as_some : (ps qs : List Token) → map fold_text ps ≡ map fold_text qs → non_empty ps ≡ true → non_empty qs ≡ true
unfolding non_empty
as_some [] qs e h = true_not_false true refl (sym h)
as_some (p ∷ ps) [] e h = let z : ◌≡◌ {A = ℕ} 0 1 = cc in absurd (omega arith)
as_some (p ∷ ps) (q ∷ qs) e h = refl

-- ---- a tail by whole parts

-- where it stands: all of the domain, or behind a dot
tail_of : (a d : List ℕ) → begins (parts_of a) (parts_of d) ≡ true
    → (same_text d a ≡ true) ⊎ ((pre : List ℕ) × (t : List ℕ) × (d ≡ pre ++ 46 ∷ t) × (same_text t a ≡ true))
unfolding non_empty
tail_of a d h =
    let c = begins_cut (parts_of a) (parts_of d) h in
    by-rest c.0 c.1 (sym (domain-parts d) ∙ ap domain_of c.2) c.3
  where
    by-rest : (p r : List Token) → d ≡ domain_of (p ++ r) → map fold_text (parts_of a) ≡ map fold_text p
        → (same_text d a ≡ true) ⊎ ((pre : List ℕ) × (t : List ℕ) × (d ≡ pre ++ 46 ∷ t) × (same_text t a ≡ true))
    by-rest p [] q e = inl (ap (λ (t : List ℕ). same_text t a) (q ∙ ap domain_of (append-nil p)) ∙ parts_same a p e)
    by-rest p (x ∷ r) q e =
        inr (
          domain_of (x ∷ r),
          domain_of p,
          q ∙ domain-append p (x ∷ r) (as_some (parts_of a) p e (parts-some a)) refl,
          parts_same a p e,
        )

module _ (a d : List ℕ) where
  -- the same by places
  pub tail-place : begins (parts_of a) (parts_of d) ≡ true
      → (length a ≤ length d) × (same_text (drop (length d - length a) d) a ≡ true) × (0 < length d - length a → get_or d (length d - length a - 1) 0 ≡ 46)
  tail-place h =
      ⊎_elim
      (λ e. let l = same_length d a e in
      let z : length d - length a ≡ 0 = omega arith in
      (omega arith, rw z e, λ k. absurd (omega arith)))
      (λ w. let pre : List ℕ = w.0 in
      let t : List ℕ = w.1 in
      let l = same_length t a w.3 in
      let n : length d ≡ length pre + suc (length t) = ap length w.2 ∙ length-append pre (46 ∷ t) in
      let z : length d - length a ≡ length pre + 1 = omega arith in
      let y : length pre + 1 - 1 ≡ length pre = omega arith in
      (omega arith, rw (z, w.2, drop-append-add pre (46 ∷ t) 1) w.3, λ k. rw (z, y, w.2) (get_or-append_seam pre 46 t 0)))
      (tail_of a d h)

  pub tail-short : length d < length a → begins (parts_of a) (parts_of d) ≡ false
  tail-short l = by_test (begins (parts_of a) (parts_of d)) (λ e. absurd (omega (arith, (tail-place e).0))) (λ e. e)

  pub tail-whole : length d ≡ length a → begins (parts_of a) (parts_of d) ≡ same_text d a
  tail-whole l =
      let z : length d - length a ≡ 0 = omega arith in
      bool_same (begins (parts_of a) (parts_of d)) (same_text d a)
      (λ h. rw z at (tail-place h).1)
      (λ h. ap (begins (parts_of a)) (sym (append-nil (parts_of d))) ∙ fold-begins (parts_of a) (parts_of d) [] (fold-parts d a h))

  -- n bytes stand before it
  module _ (n : ℕ) (q : n ≡ length d - length a) (l : 0 < n) where
    pub tail-inner : (get_or d (n - 1) 0 ≡ 46 → ⊥) → begins (parts_of a) (parts_of d) ≡ false
    tail-inner k =
        by_test (begins (parts_of a) (parts_of d))
        (λ e. absurd (k (ap (λ (m : ℕ). get_or d (m - 1) 0) q ∙ (tail-place e).2 (omega arith))))
        (λ e. e)

    pub tail_dot : get_or d (n - 1) 0 ≡ 46 → begins (parts_of a) (parts_of d) ≡ same_text (drop n d) a
    tail_dot e =
        let z : suc (n - 1) ≡ n = omega arith in
        let cut : d ≡ take (n - 1) d ++ 46 ∷ drop n d =
        split_at d (n - 1) 0 (omega arith) ∙ ap₂ (λ (x k : ℕ). take (n - 1) d ++ x ∷ drop k d) e z in
        bool_same (begins (parts_of a) (parts_of d)) (same_text (drop n d) a)
        (λ h. ap (λ (m : ℕ). same_text (drop m d) a) q ∙ (tail-place h).1)
        (λ h. ap (begins (parts_of a)) (ap parts_of cut ∙ parts-append (take (n - 1) d) (drop n d))
        ∙ fold-begins (parts_of a) (parts_of (drop n d)) (parts_of (take (n - 1) d)) (fold-parts (drop n d) a h))
