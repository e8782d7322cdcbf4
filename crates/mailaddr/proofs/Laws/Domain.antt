-- Laws of a domain by its parts from the right: joining and parting undo each other, a part in front, the part that ends
-- at a place, and letter case.
-- Assumes nothing.
use mathlib.Core.Path.{◌≡◌, refl, sym, ap, ap₂, ◌∙◌}
use Prim.Native.Nat.{ℕ, zero, suc, ◌+◌, ◌-◌, ◌≤◌, ◌<◌}
use native.Mathlib.Omega.{arith}
use mathlib.Core.Bool.{Bool, true, false, not, cond, ◌&&◌}
use mathlib.Core.List.{List, [], ◌∷◌, ◌++◌, map, reverse, reverse-append, reverse-cons, reverse-reverse}
use Rattle.std.specs.List.{list_all, onto_first, prefix_len, slice_split}
use lib.Dec.{eqb}
use lib.ListN.{length, take, drop, get_or, length-append, length-reverse}
use lib.Seq.{append_snoc, drop_at, length-take-le, take-add, take_all, take_at, take-suc, take-take}
use Rattle.chars.specs.Lists.{all, non_empty}
use Rattle.chars.specs.Class.{between, is_atom_char, is_letter}
use Rattle.chars.specs.Case.{fold_text}
use Rattle.chars.specs.Domain.{is_domain_part}
use Rattle.chars.specs.Parts.{before, is_atoms, is_part, is_parted, join, run, split}
use Rattle.chars.proofs.Laws.Lists.{all-reverse, all_weaken, and_left, by_test, one_less, true_not_false}
use Rattle.chars.proofs.Laws.Domain.{domain-part_atom}
use Rattle.chars.proofs.Laws.Seq.{map-reverse, some-reverse}
use Rattle.chars.proofs.Laws.Parts.{clear, join-fold, join_more, join-split, run-clear, run_cut, run_le, split-append, split-at_sep, split-clear, split-fold, split-join, split_one, split-some}
use Rattle.mailaddr.specs.Domain.{domain_of, in_front, is_domain, parts_of}

-- ---- the library's words for parts, tests of all and runs

pub split_is : (s : List ℕ) → slice_split (λ b. eqb b 46) s ≡ split 46 s
unfolding split before
split_is [] = refl
split_is (x ∷ s) = rw (← split_is s) (onto (slice_split (λ b. eqb b 46) s))
  where
    onto : (ps : List (List ℕ)) → cond (eqb x 46) ([] ∷ ps) (onto_first x ps) ≡ cond (eqb x 46) ([] ∷ ps) (before x ps)
    onto [] = refl
    onto (p ∷ ps) = refl

pub all_is : {A : Type 0} (p : A → Bool) (s : List A) → list_all p s ≡ all p s
unfolding all
all_is p [] = refl
all_is p (x ∷ s) = ap (λ b. p x && b) (all_is p s)

pub run_is : (s : List ℕ) → prefix_len (λ b. not (eqb b 46)) s ≡ run 46 s
unfolding run
run_is [] = refl
run_is (x ∷ s) = by_test (eqb x 46) (λ e. rw e) (λ e. rw (e, run_is s) (omega arith))

-- ---- joining and parting

pub domain-parts : (d : List ℕ) → domain_of (parts_of d) ≡ d
unfolding domain_of parts_of
domain-parts d = ap (join 46) (reverse-reverse (split 46 d)) ∙ join-split 46 d

split-joined : (ps : List (List ℕ)) → non_empty ps ≡ true → all (clear 46) ps ≡ true → split 46 (join 46 ps) ≡ ps
unfolding non_empty
split-joined [] h k = true_not_false true refl (sym h)
split-joined (p ∷ ps) h k = split-join 46 p ps k

pub parts-domain : (p : List ℕ) (ps : List (List ℕ)) → all (clear 46) (p ∷ ps) ≡ true → parts_of (domain_of (p ∷ ps)) ≡ p ∷ ps
unfolding domain_of parts_of non_empty
parts-domain p ps h =
    ap reverse (split-joined (reverse (p ∷ ps)) (some-reverse (p ∷ ps) refl) (all-reverse (clear 46) (p ∷ ps) ∙ h))
    ∙ reverse-reverse (p ∷ ps)

pub parts-some : (d : List ℕ) → non_empty (parts_of d) ≡ true
unfolding parts_of
parts-some d = some-reverse (split 46 d) (split-some 46 d)

-- no part has a dot
pub parts-clear : (d : List ℕ) → all (clear 46) (parts_of d) ≡ true
unfolding parts_of
parts-clear d = all-reverse (clear 46) (split 46 d) ∙ split-clear 46 d

-- a part in front of a domain comes last from the right
pub parts-front : (p d : List ℕ) → clear 46 p ≡ true → parts_of (in_front p d) ≡ parts_of d ++ (p ∷ [])
unfolding parts_of in_front
parts-front p d h = ap reverse (split-at_sep 46 p d h) ∙ reverse-cons p (split 46 d)

pub domain-front : (ps : List (List ℕ)) (p : List ℕ) → non_empty ps ≡ true → domain_of (ps ++ (p ∷ [])) ≡ in_front p (domain_of ps)
unfolding domain_of in_front
domain-front ps p h = ap (join 46) (reverse-append ps (p ∷ [])) ∙ join_more 46 p (reverse ps) (some-reverse ps h)

-- ---- the part on the right

-- a part behind a domain comes first from the right
parts-behind : (d p : List ℕ) → clear 46 p ≡ true → parts_of (d ++ 46 ∷ p) ≡ p ∷ parts_of d
unfolding parts_of
parts-behind d p h =
    ap reverse (split-append 46 d p ∙ ap (λ (q : List (List ℕ)). split 46 d ++ q) (split_one 46 p h))
    ∙ reverse-append (split 46 d) (p ∷ [])

back_le : (t : List ℕ) → run 46 (reverse t) ≤ length t
back_le t = omega (arith, run_le 46 (reverse t), length-reverse t)

-- the run from the right over a whole text
back_whole : (t : List ℕ) → run 46 (reverse t) ≡ length t → clear 46 t ≡ true
unfolding all
back_whole t h =
    sym (all-reverse (λ x. not (eqb x 46)) t)
    ∙ ap (clear 46) (sym (take_all (run 46 (reverse t)) (reverse t) (omega (arith, length-reverse t))))
    ∙ run-clear 46 (reverse t)

-- else a dot stands before it
back_cut : (t : List ℕ) → run 46 (reverse t) < length t
    → (pre : List ℕ) × (p : List ℕ) × (t ≡ pre ++ 46 ∷ p) × (clear 46 p ≡ true) × (length p ≡ run 46 (reverse t))
unfolding all
back_cut t h =
    let u : List ℕ = reverse t in
    let k : ℕ = run 46 u in
    let rest : List ℕ = drop (suc k) u in
    let part : List ℕ = take k u in (
      reverse rest,
      reverse part,
      sym (reverse-reverse t)
          ∙ ap reverse (run_cut 46 u (omega (arith, length-reverse t)))
          ∙ reverse-append part (46 ∷ rest)
          ∙ ap (λ (l : List ℕ). l ++ reverse part) (reverse-cons 46 rest)
          ∙ append_snoc (reverse rest) 46 (reverse part),
      all-reverse (λ x. not (eqb x 46)) part ∙ run-clear 46 u,
      length-reverse part ∙ length-take-le k u (run_le 46 u),
    )

-- the run from the right of what stands before a place: none behind a dot, one more behind any other byte, none at the front
back_step : (s : List ℕ) (i : ℕ) → 0 < i → i ≤ length s → reverse (take i s) ≡ get_or s (i - 1) 0 ∷ reverse (take (i - 1) s)
back_step s i h k =
    let e : i ≡ suc (i - 1) = omega arith in
    ap (λ (m : ℕ). reverse (take m s)) e
    ∙ ap reverse (take-suc s (i - 1) 0 (omega arith))
    ∙ reverse-append (take (i - 1) s) (get_or s (i - 1) 0 ∷ [])

pub back_dot : (s : List ℕ) (i : ℕ) → 0 < i → i ≤ length s → eqb (get_or s (i - 1) 0) 46 ≡ true → run 46 (reverse (take i s)) ≡ 0
unfolding run
back_dot s i h k e = ap (run 46) (back_step s i h k) ∙ rw e

pub back_byte : (s : List ℕ) (i : ℕ) → 0 < i → i ≤ length s → eqb (get_or s (i - 1) 0) 46 ≡ false
    → run 46 (reverse (take i s)) ≡ suc (run 46 (reverse (take (i - 1) s)))
unfolding run
back_byte s i h k e = ap (run 46) (back_step s i h k) ∙ rw e

pub back_end : (s : List ℕ) (i : ℕ) → i ≤ 0 → run 46 (reverse (take i s)) ≡ 0
unfolding run
back_end s i h =
    let e : i ≡ 0 = omega arith in
    rw e

-- ---- the part that ends at a place, for loops from the right: r is where it starts

module _ (s : List ℕ) (end r : ℕ) (fits : end ≤ length s) (q : r ≡ end - run 46 (reverse (take end s))) where
  pub start-within : r ≤ end
  start-within = omega arith

  part-last : r ≡ 0 → parts_of (take end s) ≡ take end s ∷ []
  unfolding parts_of
  part-last h =
      let t : List ℕ = take end s in
      ap reverse (split_one 46 t (back_whole t (omega (arith, back_le t, length-take-le end s fits))))

  part-more : 0 < r → parts_of (take end s) ≡ take (end - r) (drop r s) ∷ parts_of (take (r - 1) s)
  part-more h =
      let t : List ℕ = take end s in
      let n = length-take-le end s fits in
      let cut = back_cut t (omega (arith, n)) in
      let pre : List ℕ = cut.0 in
      let p : List ℕ = cut.1 in
      let l : length pre ≡ r - 1 = omega (arith, n, ap length cut.2, length-append pre (46 ∷ p), cut.4) in
      let m : end ≡ r + (end - r) = omega arith in
      let whole : take end s ≡ take r s ++ take (end - r) (drop r s) = ap (λ (k : ℕ). take k s) m ∙ take-add r (end - r) s in
      let p-is : p ≡ take (end - r) (drop r s) =
      sym (drop_at (pre ++ (46 ∷ [])) p r (omega (arith, length-append pre (46 ∷ []))))
      ∙ ap (drop r) (append_snoc pre 46 p ∙ sym cut.2 ∙ whole)
      ∙ drop_at (take r s) (take (end - r) (drop r s)) r (length-take-le r s (omega arith)) in
      let pre_is : pre ≡ take (r - 1) s =
      sym (take_at pre (46 ∷ p) (r - 1) l) ∙ ap (take (r - 1)) (sym cut.2) ∙ take-take (r - 1) end s (omega arith) in
      ap parts_of cut.2
      ∙ parts-behind pre p cut.3
      ∙ ap₂ (λ (x d : List ℕ). x ∷ parts_of d) p-is pre_is

-- the parts that are left before a part that starts at a place
unfoldable pub parts_left : List ℕ → ℕ → List (List ℕ)
unfolding parts_of
parts_left s zero = []
parts_left s (suc r) = parts_of (take r s)

pub left_none : (s : List ℕ) (r : ℕ) → r ≡ 0 → parts_left s r ≡ []
unfolding parts_left
left_none s r h = rw h

pub left_some : (s : List ℕ) (r : ℕ) → 0 < r → parts_left s r ≡ parts_of (take (r - 1) s)
unfolding parts_left
left_some s zero h = absurd (omega arith)
left_some s (suc r) h = rw (one_less r)

-- both cases at once
pub part-first : (s : List ℕ) (end r : ℕ) → end ≤ length s → r ≡ end - run 46 (reverse (take end s))
    → parts_of (take end s) ≡ take (end - r) (drop r s) ∷ parts_left s r
unfolding parts_left
part-first s end zero h q =
    let e : end - 0 ≡ end = omega arith in
    rw e (part-last s end 0 h q refl)
part-first s end (suc r) h q = rw (one_less r) at (part-more s end (suc r) h q (omega arith))

-- the part has no dot
pub part-clear : (s : List ℕ) (end r : ℕ) → end ≤ length s → r ≡ end - run 46 (reverse (take end s))
    → clear 46 (take (end - r) (drop r s)) ≡ true
unfolding all
part-clear s end r h q =
    and_left (clear 46 (take (end - r) (drop r s))) (all (clear 46) (parts_left s r))
    (ap (all (clear 46)) (sym (part-first s end r h q)) ∙ parts-clear (take end s))

-- ---- letter case is kept, and no matter

dot_other : is_letter 46 ≡ false
unfolding is_letter between
dot_other = refl

pub parts-fold : (d : List ℕ) → parts_of (fold_text d) ≡ map fold_text (parts_of d)
unfolding parts_of
parts-fold d = ap reverse (split-fold 46 dot_other d) ∙ sym (map-reverse fold_text (split 46 d))

pub domain-fold : (ps : List (List ℕ)) → domain_of (map fold_text ps) ≡ fold_text (domain_of ps)
unfolding domain_of
domain-fold ps = ap (join 46) (sym (map-reverse fold_text ps)) ∙ join-fold 46 dot_other (reverse ps)

-- domain parts are atoms
pub domain-atoms : (d : List ℕ) → is_domain d ≡ true → is_atoms d ≡ true
unfolding is_domain is_atoms is_parted
domain-atoms d h = all_weaken is_domain_part (is_part is_atom_char) domain-part_atom (split 46 d) h
