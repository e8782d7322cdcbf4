-- Laws of parts between separators: split and join undo each other, the run up to a separator, and the test of a text by one
-- pass, `parted_from`, with what it says of the whole text.
-- Assumes nothing.
use Rattle.std.specs.List.{position, position_or_len}
use Rattle.std.specs.Option.{unwrap_or}
use Rattle.std.specs.Prelude.{◌==◌}
use mathlib.Core.Path.{◌≡◌, refl, sym, ap, ap₂, ◌∙◌}
use Prim.Native.Nat.{ℕ, suc, ◌+◌, ◌-◌, ◌≤◌, ◌<◌}
use native.Mathlib.Nat.{suc_inj, le_of_suc-le-suc}
use native.Mathlib.Numerals.{add-one}
use native.Mathlib.Omega.{arith}
use mathlib.Core.Bool.{Bool, true, false, not, ◌&&◌, ◌||◌, cond, and-true, and-false, and_assoc}
use mathlib.Core.List.{List, [], ◌∷◌, ◌++◌, map, tail}
use borrow.Author.Tests.{eqb-true, eq-eqb, ltb-true, ltb-false, ne_eqb, not-true}
use lib.Dec.{eqb, ltb}
use lib.ListN.{length, take, drop, get_or, length-drop, drop_of_length-le}
use lib.Seq.{drop-cons, drop-drop, take-length}
use Rattle.chars.specs.Lists.{all, first, last, non_empty}
use Rattle.chars.specs.Class.{is_in, is_letter}
use Rattle.chars.specs.Case.{fold_case, fold_text}
use Rattle.chars.specs.declared.class.Class.TheVariants.{Letter}
use Rattle.chars.specs.Parts.{before, split, join, run, is_part, is_parted, side_by_side}
use Rattle.chars.proofs.Laws.Lists.{all_ext, all_map, all_weaken, and_left, and_right, by_test, true_not_false}
use Rattle.chars.proofs.Laws.Case.{class_fold, fold-append, fold_other}

-- ---- split and join

before-some : (x : ℕ) (ps : List (List ℕ)) → non_empty (before x ps) ≡ true
unfolding before non_empty
before-some x [] = refl
before-some x (p ∷ ps) = refl

pub split-some : (sep : ℕ) (s : List ℕ) → non_empty (split sep s) ≡ true
unfolding split non_empty
split-some sep [] = refl
split-some sep (x ∷ s) = by_test (eqb x sep) (λ e. rw e) (λ e. rw e (before-some x (split sep s)))

join-before : (sep x : ℕ) (ps : List (List ℕ)) → join sep (before x ps) ≡ x ∷ join sep ps
unfolding before join
join-before sep x [] = refl
join-before sep x (p ∷ []) = refl
join-before sep x (p ∷ q ∷ ps) = refl

pub join_more : (sep : ℕ) (p : List ℕ) (ps : List (List ℕ)) → non_empty ps ≡ true → join sep (p ∷ ps) ≡ p ++ sep ∷ join sep ps
unfolding join non_empty
join_more sep p [] h = true_not_false true refl (sym h)
join_more sep p (q ∷ ps) h = refl

pub join-split : (sep : ℕ) (s : List ℕ) → join sep (split sep s) ≡ s
unfolding split join
join-split sep [] = refl
join-split sep (x ∷ s) =
    by_test (eqb x sep)
    (λ e. rw e (join_more sep [] (split sep s) (split-some sep s) ∙ ap₂ (λ (y : ℕ) (t : List ℕ). y ∷ t) (sym (eqb-true x sep e)) (join-split sep s)))
    (λ e. rw e (join-before sep x (split sep s) ∙ ap (λ (t : List ℕ). x ∷ t) (join-split sep s)))

-- how much parts take up, each with a separator behind it
unfoldable pub sizes : List (List ℕ) → ℕ
sizes [] = 0
sizes (p ∷ ps) = suc (length p + sizes ps)

sizes_before : (x : ℕ) (ps : List (List ℕ)) → non_empty ps ≡ true → sizes (before x ps) ≡ suc (sizes ps)
unfolding before non_empty sizes
sizes_before x [] h = true_not_false true refl (sym h)
sizes_before x (p ∷ ps) h = omega arith

pub split_sizes : (sep : ℕ) (s : List ℕ) → sizes (split sep s) ≡ suc (length s)
unfolding split sizes
split_sizes sep [] = refl
split_sizes sep (x ∷ s) =
    by_test (eqb x sep)
    (λ e. rw e (omega (arith, split_sizes sep s)))
    (λ e. rw e (omega (arith, split_sizes sep s, sizes_before x (split sep s) (split-some sep s))))

-- no separator stands in the text
abbrev pub clear : ℕ → List ℕ → Bool
unfolding all
clear sep p = all (λ x. not (eqb x sep)) p

all-before : (c : ℕ → Bool) (x : ℕ) (ps : List (List ℕ)) → all (all c) (before x ps) ≡ c x && all (all c) ps
unfolding all before
all-before c x [] = rw (and-true (c x && true))
all-before c x (p ∷ ps) = and_assoc (c x) (all c p) (all (all c) ps)

-- the parts of a text have no separator
pub split-clear : (sep : ℕ) (s : List ℕ) → all (clear sep) (split sep s) ≡ true
unfolding split all
split-clear sep [] = refl
split-clear sep (x ∷ s) =
    by_test (eqb x sep)
    (λ e. rw e (split-clear sep s))
    (λ e. rw e (all-before (λ y. not (eqb y sep)) x (split sep s) ∙ rw e (split-clear sep s)))

module _ (sep : ℕ) where
  -- a part that ends at a separator
  pub split-at_sep : (p s : List ℕ) → clear sep p ≡ true → split sep (p ++ sep ∷ s) ≡ p ∷ split sep s
  unfolding split all before
  split-at_sep [] s h = rw (eq-eqb sep sep refl)
  split-at_sep (x ∷ p) s h =
      rw (not-true (eqb x sep) (and_left (not (eqb x sep)) (clear sep p) h), split-at_sep p s (and_right (not (eqb x sep)) (clear sep p) h))

  -- a text with no separator
  pub split_one : (p : List ℕ) → clear sep p ≡ true → split sep p ≡ p ∷ []
  unfolding split all before
  split_one [] h = refl
  split_one (x ∷ p) h =
      rw (not-true (eqb x sep) (and_left (not (eqb x sep)) (clear sep p) h), split_one p (and_right (not (eqb x sep)) (clear sep p) h))

  pub split-join : (p : List ℕ) (ps : List (List ℕ)) → all (clear sep) (p ∷ ps) ≡ true → split sep (join sep (p ∷ ps)) ≡ p ∷ ps
  unfolding join all
  split-join p [] h = split_one p (and_left (clear sep p) true h)
  split-join p (q ∷ ps) h =
      split-at_sep p (join sep (q ∷ ps)) (and_left (clear sep p) (all (clear sep) (q ∷ ps)) h)
      ∙ ap (λ (r : List (List ℕ)). p ∷ r) (split-join q ps (and_right (clear sep p) (all (clear sep) (q ∷ ps)) h))

  before-append : (x : ℕ) (ps qs : List (List ℕ)) → non_empty ps ≡ true → before x (ps ++ qs) ≡ before x ps ++ qs
  unfolding before non_empty
  before-append x [] qs h = true_not_false true refl (sym h)
  before-append x (p ∷ ps) qs h = refl

  -- two texts with a separator between them
  pub split-append : (s t : List ℕ) → split sep (s ++ sep ∷ t) ≡ split sep s ++ split sep t
  unfolding split
  split-append [] t = rw (eq-eqb sep sep refl)
  split-append (x ∷ s) t =
      by_test (eqb x sep)
      (λ e. rw (e, split-append s t))
      (λ e. rw (e, split-append s t) (before-append x (split sep s) (split sep t) (split-some sep s)))

  -- ---- the run up to the first separator

  pub run_le : (s : List ℕ) → run sep s ≤ length s
  unfolding run
  run_le [] = omega arith
  run_le (x ∷ s) = by_test (eqb x sep) (λ e. rw e (omega arith)) (λ e. rw e (omega (arith, run_le s)))

  -- the part that starts at i ends at i where a separator stands there
  -- std's word for it, by which a chain of iterators answers
  run-prefix : (s : List ℕ) → position_or_len (λ x. x == sep) s ≡ run sep s
  unfolding run
  run-prefix [] = refl
  run-prefix (x ∷ s) = by_test (eqb x sep) (λ e. rw e) (λ e. rw (e, run-prefix s) (omega arith))

  pub run-position : (s : List ℕ) → unwrap_or (position (λ x. x == sep) s) (length s) ≡ run sep s
  run-position s =
      rw (run-prefix s)
      (by_test (ltb (run sep s) (length s))
      (λ e. rw e)
      (λ e. rw e (omega (arith, run_le s, ltb-false (run sep s) (length s) e))))

  -- a text is one part where the run goes to its end
  pub split-last : (s : List ℕ) → run sep s ≡ length s → split sep s ≡ s ∷ []
  unfolding run split before
  split-last [] h = refl
  split-last (x ∷ s) h =
      by_test (eqb x sep)
      (λ e. absurd (omega (arith, rw e at h)))
      (λ e. rw (e, split-last s (suc_inj (rw e at h))))

  split_cut : (s : List ℕ) → run sep s < length s → split sep s ≡ take (run sep s) s ∷ split sep (drop (suc (run sep s)) s)
  unfolding run split before
  split_cut [] h = absurd (omega arith)
  split_cut (x ∷ s) h =
      by_test (eqb x sep)
      (λ e. rw e)
      (λ e. rw (e, split_cut s (le_of_suc-le-suc (rw e at h))))

  -- else the first part is the run, and the others come after the separator
  pub split-first : (s : List ℕ) → run sep s < length s → split sep s ≡ take (run sep s) s ∷ split sep (drop (run sep s + 1) s)
  split-first s h = rw add-one (split_cut s h)

  -- the first part of a text is the run, and there are others or not
  pub split_head : (s : List ℕ) → split sep s ≡ take (run sep s) s ∷ tail (split sep s)
  split_head s =
      by_test (ltb (run sep s) (length s))
      (λ e. let q = split-first s (ltb-true (run sep s) (length s) e) in
      q ∙ ap (λ (t : List (List ℕ)). take (run sep s) s ∷ tail t) (sym q))
      (λ e. let g : run sep s ≡ length s = omega (arith, run_le s, ltb-false (run sep s) (length s) e) in
      let q = split-last s g in
      q ∙ ap₂ (λ (a : List ℕ) (b : List (List ℕ)). a ∷ b) (sym (rw g (take-length s))) (ap tail (sym q)))

  -- the run has no separator, and one stands behind it unless the text ends there
  pub run-clear : (s : List ℕ) → clear sep (take (run sep s) s) ≡ true
  unfolding all
  run-clear s =
      and_left (clear sep (take (run sep s) s)) (all (clear sep) (tail (split sep s)))
      (ap (all (clear sep)) (sym (split_head s)) ∙ split-clear sep s)

  pub run_cut : (s : List ℕ) → run sep s < length s → s ≡ take (run sep s) s ++ sep ∷ drop (suc (run sep s)) s
  unfolding run
  run_cut [] h = absurd (omega arith)
  run_cut (x ∷ s) h =
      by_test (eqb x sep)
      (λ e. rw e (ap (λ (y : ℕ). y ∷ s) (eqb-true x sep e)))
      (λ e. rw e (ap (λ (t : List ℕ). x ∷ t) (run_cut s (le_of_suc-le-suc (rw e at h)))))

  pub run_at : (p s : List ℕ) → clear sep p ≡ true → run sep (p ++ sep ∷ s) ≡ length p
  unfolding run all
  run_at [] s h = rw (eq-eqb sep sep refl)
  run_at (x ∷ p) s h =
      rw (not-true (eqb x sep) (and_left (not (eqb x sep)) (clear sep p) h), run_at p s (and_right (not (eqb x sep)) (clear sep p) h))

  -- the same of what is left from a place on, with the end e of the first part there
  module _ (s : List ℕ) (from e : ℕ) (q : e ≡ from + run sep (drop from s)) where
    pub split-end : length s ≤ e → split sep (drop from s) ≡ drop from s ∷ []
    split-end h = split-last (drop from s) (omega (arith, run_le (drop from s), length-drop from s))

    pub split_next : e < length s → split sep (drop from s) ≡ take (e - from) (drop from s) ∷ split sep (drop (e + 1) s)
    split_next h =
        let k : e - from ≡ run sep (drop from s) = omega arith in
        let m : e + 1 ≡ from + (run sep (drop from s) + 1) = omega arith in
        split-first (drop from s) (omega (arith, length-drop from s))
        ∙ rw (k, m, drop-drop (run sep (drop from s) + 1) from s)

-- ---- the test of a text by one pass

-- the rest of a text from a place on; `o`: nothing of the present part has come yet
unfoldable pub parted_from : ℕ → (ℕ → Bool) → Bool → List ℕ → Bool
parted_from sep p o [] = not o
parted_from sep p o (x ∷ s) = cond (eqb x sep) (not o && parted_from sep p true s) (p x && parted_from sep p false s)

module _ (sep : ℕ) (p : ℕ → Bool) where
  -- the first part of the class, empty or not, and the others parts of the class
  unfoldable begun : List (List ℕ) → Bool
  unfolding all is_part
  begun [] = true
  begun (q ∷ qs) = all p q && all (is_part p) qs

  begun-before : (x : ℕ) (ps : List (List ℕ)) → begun (before x ps) ≡ p x && begun ps
  unfolding all is_part before begun
  begun-before x [] = rw (and-true (p x && true))
  begun-before x (q ∷ qs) = and_assoc (p x) (all p q) (all (is_part p) qs)

  parts-before : (x : ℕ) (ps : List (List ℕ)) → all (is_part p) (before x ps) ≡ begun (before x ps)
  unfolding all is_part before begun non_empty
  parts-before x [] = refl
  parts-before x (q ∷ qs) = refl

  begun-from : (s : List ℕ) → (begun (split sep s) ≡ parted_from sep p false s) × (all (is_part p) (split sep s) ≡ parted_from sep p true s)
  unfolding all is_part split begun parted_from non_empty
  begun-from [] = (refl, refl)
  begun-from (x ∷ s) =
      by_test (eqb x sep)
      (λ e. (rw e (begun-from s).1, rw e))
      (λ e. let h = begun-before x (split sep s) ∙ ap (λ (t : Bool). p x && t) (begun-from s).0 in
      (rw e h, rw e (parts-before x (split sep s) ∙ h)))

  pub parted-from : (s : List ℕ) → is_parted sep p s ≡ parted_from sep p true s
  unfolding is_parted
  parted-from s = (begun-from s).1

  -- a turn of the loop: at a separator, and at another byte
  pub from_sep : (o : Bool) (s : List ℕ) (i : ℕ) → i < length s → eqb (get_or s i 0) sep ≡ true
      → parted_from sep p o (drop i s) ≡ not o && parted_from sep p true (drop (i + 1) s)
  unfolding parted_from
  from_sep o s i h e = rw (add-one, drop-cons s i 0, e)

  pub from_byte : (o : Bool) (s : List ℕ) (i : ℕ) → i < length s → eqb (get_or s i 0) sep ≡ false
      → parted_from sep p o (drop i s) ≡ p (get_or s i 0) && parted_from sep p false (drop (i + 1) s)
  unfolding parted_from
  from_byte o s i h e = rw (add-one, drop-cons s i 0, e)

  pub from_end : (o : Bool) (s : List ℕ) (i : ℕ) → length s ≤ i → parted_from sep p o (drop i s) ≡ not o
  unfolding parted_from
  from_end o s i h = rw (drop_of_length-le s)

  from_all : (o : Bool) (s : List ℕ) → parted_from sep p o s ≡ true → all (λ x. eqb x sep || p x) s ≡ true
  unfolding parted_from all
  from_all o [] h = refl
  from_all o (x ∷ s) h =
      by_test (eqb x sep)
      (λ e. rw e (from_all true s (and_right (not o) (parted_from sep p true s) (rw e at h))))
      (λ e. let g : p x && parted_from sep p false s ≡ true = rw e at h in
      rw (e, and_left (p x) (parted_from sep p false s) g) (from_all false s (and_right (p x) (parted_from sep p false s) g)))

  -- each byte is a separator or of the class
  pub parted-all : (s : List ℕ) → is_parted sep p s ≡ true → all (λ x. eqb x sep || p x) s ≡ true
  parted-all s h = from_all true s (sym (parted-from s) ∙ h)

  pub parted-some : (s : List ℕ) → is_parted sep p s ≡ true → non_empty s ≡ true
  unfolding non_empty parted_from
  parted-some [] h = sym (parted-from []) ∙ h
  parted-some (x ∷ s) h = refl

  -- a text that has no separator, in front of the rest
  pub from-append : (o : Bool) (u t : List ℕ) → non_empty u && clear sep u ≡ true → parted_from sep p o (u ++ t) ≡ all p u && parted_from sep p false t
  unfolding parted_from non_empty all
  from-append o [] t h = true_not_false true refl (sym h)
  from-append o (x ∷ []) t h = rw (not-true (eqb x sep) (and_left (not (eqb x sep)) true h), and-true (p x))
  from-append o (x ∷ y ∷ u) t h =
      rw (not-true (eqb x sep) (and_left (not (eqb x sep)) (clear sep (y ∷ u)) h), from-append false (y ∷ u) t (and_right (not (eqb x sep)) (clear sep (y ∷ u)) h))
      (sym (and_assoc (p x) (all p (y ∷ u)) (parted_from sep p false t)))

-- ---- what the pass says of a whole text, where the separator is not 0

-- the conditions in another order: a separator comes first, and another byte
at_sep : (n f d a l : Bool) → n && (not f && (a && not d && l)) ≡ a && not (f || d) && (n && l)
at_sep true true d true l = refl
at_sep true true d false l = refl
at_sep true false d a l = refl
at_sep false f d true l = sym (and-false (not (f || d)))
at_sep false f d false l = refl

at_other : (q a d l : Bool) → q && (a && d && l) ≡ q && a && d && l
at_other true a d l = refl
at_other false a d l = refl

module _ (sep : ℕ) (p : ℕ → Bool) (z : eqb 0 sep ≡ false) where
  -- the last byte is no separator, with one or another byte in front of the text
  last_sep : (x : ℕ) (s : List ℕ) → eqb x sep ≡ true → not (eqb (last (x ∷ s)) sep) ≡ non_empty s && not (eqb (last s) sep)
  unfolding last non_empty
  last_sep x [] e = rw e
  last_sep x (y ∷ s) e = refl

  last_other : (x : ℕ) (s : List ℕ) → eqb x sep ≡ false → not (eqb (last (x ∷ s)) sep) ≡ not (eqb (last s) sep)
  unfolding last
  last_other x [] e = rw (e, z)
  last_other x (y ∷ s) e = refl

  -- what the pass asks of a text after the first byte of a part
  unfoldable apart : List ℕ → Bool
  unfolding all side_by_side last
  apart s = all (λ x. eqb x sep || p x) s && not (side_by_side sep s) && not (eqb (last s) sep)

  from_open : (s : List ℕ) → parted_from sep p false s ≡ apart s → parted_from sep p true s ≡ non_empty s && (not (eqb (first s) sep) && apart s)
  unfolding parted_from non_empty first
  from_open [] h = refl
  from_open (x ∷ s) h = by_test (eqb x sep) (λ e. rw e) (λ e. rw e (rw e at h))

  from-apart : (s : List ℕ) → parted_from sep p false s ≡ apart s
  unfolding parted_from apart all side_by_side last
  from-apart [] = rw z
  from-apart (x ∷ s) =
      by_test (eqb x sep)
      (λ e. rw (e, last_sep x s e)
      (from_open s (from-apart s) ∙ at_sep (non_empty s) (eqb (first s) sep) (side_by_side sep s) (all (λ y. eqb y sep || p y) s) (not (eqb (last s) sep))))
      (λ e. rw (e, last_other x s e)
      (ap (λ (t : Bool). p x && t) (from-apart s) ∙ at_other (p x) (all (λ y. eqb y sep || p y) s) (not (side_by_side sep s)) (not (eqb (last s) sep))))

  -- parts of the class with single separators between: what the text has, said of the whole
  pub from-whole : (s : List ℕ)
      → parted_from sep p true s ≡ non_empty s && (not (eqb (first s) sep) && (all (λ x. eqb x sep || p x) s && not (side_by_side sep s) && not (eqb (last s) sep)))
  unfolding apart
  from-whole s = from_open s (from-apart s)

-- parts of a class that has no separator, joined
pub parted-join : (sep : ℕ) (p : ℕ → Bool) → p sep ≡ false → (q : List ℕ) (qs : List (List ℕ)) → all (is_part p) (q ∷ qs) ≡ true → is_parted sep p (join sep (q ∷ qs)) ≡ true
unfolding is_parted is_part
parted-join sep p h q qs k = rw (split-join sep q qs (all_weaken (is_part p) (clear sep) part-clear (q ∷ qs) k)) k
  where
    byte_clear : (x : ℕ) → p x ≡ true → not (eqb x sep) ≡ true
    byte_clear x e = rw (ne_eqb x sep (λ r. true_not_false (p x) e (ap p r ∙ h)))

    part-clear : (t : List ℕ) → is_part p t ≡ true → clear sep t ≡ true
    part-clear t e = all_weaken p (λ x. not (eqb x sep)) byte_clear t (and_right (non_empty t) (all p t) e)

-- ---- letter case: a separator that is no letter stays one

letter_fold : (b : ℕ) → is_letter (fold_case b) ≡ is_letter b
unfolding is_in
letter_fold b = class_fold Letter b

letter_differs : (a b : ℕ) → is_letter a ≡ true → is_letter b ≡ false → eqb a b ≡ false
letter_differs a b e f = ne_eqb a b (λ q. true_not_false (is_letter a) e (ap is_letter q ∙ f))

module _ (sep : ℕ) (h : is_letter sep ≡ false) where
  pub fold_is : (x : ℕ) → eqb (fold_case x) sep ≡ eqb x sep
  fold_is x =
      by_test (is_letter x)
      (λ e. letter_differs (fold_case x) sep (letter_fold x ∙ e) h ∙ sym (letter_differs x sep e h))
      (λ e. rw (fold_other x e))

  map-before : (x : ℕ) (ps : List (List ℕ)) → map fold_text (before x ps) ≡ before (fold_case x) (map fold_text ps)
  unfolding before fold_text
  map-before x [] = refl
  map-before x (p ∷ ps) = refl

  pub split-fold : (s : List ℕ) → split sep (fold_text s) ≡ map fold_text (split sep s)
  unfolding split fold_text
  split-fold [] = refl
  split-fold (x ∷ s) =
      by_test (eqb x sep)
      (λ e. rw (fold_is x, e, split-fold s))
      (λ e. rw (fold_is x, e, split-fold s) (sym (map-before x (split sep s))))

  pub join-fold : (ps : List (List ℕ)) → join sep (map fold_text ps) ≡ fold_text (join sep ps)
  unfolding join fold_text
  join-fold [] = refl
  join-fold (p ∷ []) = refl
  join-fold (p ∷ q ∷ ps) =
      sym (fold-append p (sep ∷ join sep (q ∷ ps)) ∙ ap₂ (λ (x : ℕ) (t : List ℕ). fold_text p ++ x ∷ t) (fold_other sep h) (sym (join-fold (q ∷ ps))))

-- a class that has a letter with its small one has a part with its folded one
pub part-fold : (p : ℕ → Bool) → ((x : ℕ) → p (fold_case x) ≡ p x) → (s : List ℕ) → is_part p (fold_text s) ≡ is_part p s
unfolding is_part non_empty fold_text
part-fold p f [] = refl
part-fold p f (x ∷ s) = all_map p fold_case (x ∷ s) ∙ all_ext (λ y. p (fold_case y)) p f (x ∷ s)

pub parted-fold : (sep : ℕ) → is_letter sep ≡ false → (p : ℕ → Bool) → ((x : ℕ) → p (fold_case x) ≡ p x) → (s : List ℕ)
    → is_parted sep p (fold_text s) ≡ is_parted sep p s
unfolding is_parted
parted-fold sep h p f s =
    ap (all (is_part p)) (split-fold sep h s)
    ∙ all_map (is_part p) fold_text (split sep s)
    ∙ all_ext (λ q. is_part p (fold_text q)) (is_part p) (part-fold p f) (split sep s)
