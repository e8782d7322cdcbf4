-- Laws of take, drop, map and reading at a place, for any element, that the toolchain's library lacks.
-- Assumes nothing.
use mathlib.Core.Path.{◌≡◌, refl, sym, ap, ◌∙◌}
use mathlib.Core.Bool.{true, false}
use mathlib.Core.List.{List, [], ◌∷◌, ◌++◌, map, reverse, reverse_aux, reverse-cons}
use Prim.Native.Nat.{ℕ, zero, suc, ◌+◌, ◌-◌, ◌≤◌, ◌<◌}
use native.Mathlib.Nat.{le_of_suc-le-suc, not-suc-le-zero, zero-lt-suc}
use native.Mathlib.Numerals.{add-one}
use native.Mathlib.Omega.{arith}
use borrow.Author.Tests.{lt-ltb, ltb-false, ltb-true}
use lib.Dec.{ltb}
use lib.ListN.{length, drop, get_or, take, set, length-drop, length-take, get_or-eq_default, get_or-map}
use lib.Seq.{drop-cons, drop-drop, get_or-drop, get_or-take, take_all, take-nil}
use Rattle.chars.specs.Lists.{non_empty}
use Rattle.chars.proofs.Laws.Lists.{by_test}

module _ {A : Type 0} where
  -- within a list what is read does not depend on the default
  pub get_d_any : (l : List A) (k : ℕ) (d e : A) → k < length l → get_or l k d ≡ get_or l k e
  get_d_any [] k d e h = absurd (not-suc-le-zero h)
  get_d_any (x ∷ l) zero d e h = refl
  get_d_any (x ∷ l) (suc k) d e h = get_d_any l k d e (le_of_suc-le-suc h)

  pub take_same : (i j : ℕ) (s : List A) → i ≡ j → take i s ≡ take j s
  take_same i j s e = ap (λ k. take k s) e

  -- what is left of a front
  pub drop-take : (i j : ℕ) (s : List A) → drop i (take j s) ≡ take (j - i) (drop i s)
  drop-take zero j s = take_same j (j - 0) s (omega arith)
  drop-take (suc i) zero s = take_same 0 (0 - suc i) (drop (suc i) s) (omega arith)
  drop-take (suc i) (suc j) [] = sym (take-nil (suc j - suc i))
  drop-take (suc i) (suc j) (x ∷ s) = drop-take i j s ∙ take_same (j - i) (suc j - suc i) (drop i s) (omega arith)

  -- n elements of a list from the ith on, by their places
  unfoldable pub elements : List A → A → ℕ → ℕ → List A
  elements s d i zero = []
  elements s d i (suc n) = get_or s i d ∷ elements s d (suc i) n

  pub elements_taken : (s : List A) (d : A) (i n : ℕ) → i + n ≤ length s → take n (drop i s) ≡ elements s d i n
  unfolding elements
  elements_taken s d i zero h = refl
  elements_taken s d i (suc n) h = rw (drop-cons s i d (omega arith), elements_taken s d (suc i) n (omega arith))

  pub elements_all : (s : List A) (d : A) (i n : ℕ) → length s ≡ i + n → drop i s ≡ elements s d i n
  elements_all s d i n h = sym (take_all n (drop i s) (omega (arith, length-drop i s))) ∙ elements_taken s d i n (omega arith)

  -- the rest of a text, as a part of it
  pub rest_of : (n : ℕ) (s : List A) → take (length s - n) (drop n s) ≡ drop n s
  rest_of n s = take_all (length s - n) (drop n s) (omega (arith, length-drop n s))

  -- a part of a room is taken again by its own length
  take_own : (n : ℕ) (l : List A) → take (length (take n l)) l ≡ take n l
  take_own zero l = refl
  take_own (suc n) [] = refl
  take_own (suc n) (x ∷ l) = ap (λ s. x ∷ s) (take_own n l)

-- the part of a room that is as long as its text is the text, and is within the room
pub part_is : {A : Type 0} (n : ℕ) (b : List A) (m : ℕ) → m ≡ length (take n b) → take m b ≡ take n b
part_is n b m e = ap (λ k. take k b) e ∙ take_own n b

pub part-within : {A : Type 0} (n : ℕ) (b : List A) (m : ℕ) → m ≡ length (take n b) → m ≤ length b
part-within n b m e = omega (arith, length-take n b)

pub part_length : {A : Type 0} (n : ℕ) (b : List A) (m : ℕ) → m ≡ length (take n b) → m ≡ length (take m b)
part_length n b m e = e ∙ ap length (sym (part_is n b m e))

-- one of the first n, by what it holds
pub get_d_view : {A B : Type 0} (f : A → B) (l : List A) (n i : ℕ) (d : A) → i < length (take n (map f l)) → get_or (take n (map f l)) i (f d) ≡ f (get_or l i d)
get_d_view f l n i d h = get_or-take n (map f l) i (f d) (omega (arith, length-take n (map f l))) ∙ get_or-map f l i d

pub map-set : {A B : Type 0} (f : A → B) (l : List A) (k : ℕ) (x : A) → map f (set l k x) ≡ set (map f l) k (f x)
map-set f [] k x = refl
map-set f (y ∷ l) zero x = refl
map-set f (y ∷ l) (suc k) x = ap (λ s. f y ∷ s) (map-set f l k x)

pub map-drop : {A B : Type 0} (f : A → B) (n : ℕ) (s : List A) → map f (drop n s) ≡ drop n (map f s)
map-drop f zero s = refl
map-drop f (suc n) [] = refl
map-drop f (suc n) (x ∷ s) = map-drop f n s

pub map-take : {A B : Type 0} (f : A → B) (n : ℕ) (s : List A) → map f (take n s) ≡ take n (map f s)
map-take f zero s = refl
map-take f (suc n) [] = refl
map-take f (suc n) (x ∷ s) = rw (map-take f n s)

map_aux : {A B : Type 0} (f : A → B) (s r : List A) → map f (reverse_aux s r) ≡ reverse_aux (map f s) (map f r)
map_aux f [] r = refl
map_aux f (x ∷ s) r = map_aux f s (x ∷ r)

pub map-reverse : {A B : Type 0} (f : A → B) (s : List A) → map f (reverse s) ≡ reverse (map f s)
map-reverse f s = map_aux f s []

-- the test for a list by its length, as code tests it
pub some_test : {A : Type 0} (s : List A) → ltb 0 (length s) ≡ non_empty s
unfolding non_empty
some_test [] = refl
some_test (x ∷ s) = lt-ltb 0 (suc (length s)) (zero-lt-suc (length s))

pub some-length : {A : Type 0} (s : List A) → 0 < length s → non_empty s ≡ true
some-length s h = sym (some_test s) ∙ lt-ltb 0 (length s) h

pub no_length : {A : Type 0} (s : List A) → length s ≤ 0 → s ≡ []
no_length [] h = refl
no_length (x ∷ s) h = absurd (not-suc-le-zero h)

pub some-append : {A : Type 0} (s t : List A) → non_empty t ≡ true → non_empty (s ++ t) ≡ true
unfolding non_empty
some-append [] t h = h
some-append (x ∷ s) t h = refl

pub some-reverse : {A : Type 0} (s : List A) → non_empty s ≡ true → non_empty (reverse s) ≡ true
unfolding non_empty
some-reverse [] h = h
some-reverse (x ∷ s) h = ap non_empty (reverse-cons x s) ∙ some-append (reverse s) (x ∷ []) refl

pub absent_is : {A : Type 0} (s : List A) → non_empty s ≡ false → s ≡ []
absent_is s h = no_length s (ltb-false 0 (length s) (some_test s ∙ h))

-- a byte that is not 0 stands in the text
pub byte_inside : (s : List ℕ) (i : ℕ) → 0 < get_or s i 0 → i < length s
byte_inside s i h =
    by_test (ltb i (length s))
    (λ e. ltb-true i (length s) e)
    (λ e. absurd (omega (arith, get_or-eq_default s 0 (ltb-false i (length s) e))))

-- what stands at a place, and the text behind it
pub front-there : (s : List ℕ) (i : ℕ) → i < length s → drop i s ≡ get_or s i 0 ∷ drop (i + 1) s
front-there s i h = rw add-one (drop-cons s i 0 h)

-- what stands behind a place: the next byte, the one behind it, and the text behind the next byte
module _ (s : List ℕ) (i : ℕ) where
  pub second : get_or (drop (suc i) s) 0 0 ≡ get_or s (i + 1) 0
  second = let q : suc i + 0 ≡ i + 1 = omega arith in get_or-drop (suc i) s 0 0 ∙ rw q

  pub third : get_or (drop (suc i) s) 1 0 ≡ get_or s (i + 2) 0
  third = let q : suc i + 1 ≡ i + 2 = omega arith in get_or-drop (suc i) s 1 0 ∙ rw q

  pub beyond : drop 1 (drop (suc i) s) ≡ drop (i + 2) s
  beyond = let q : suc i + 1 ≡ i + 2 = omega arith in drop-drop 1 (suc i) s ∙ rw q

-- the number at a place, where the numbers from there on are known
pub taken_next : (l : List ℕ) (k n x : ℕ) (xs : List ℕ) → take (suc n) (drop k l) ≡ x ∷ xs → (k < length l) × (get_or l k 0 ≡ x) × (take n (drop (k + 1) l) ≡ xs)
taken_next [] zero n x xs h = let z : ◌≡◌ {A = ℕ} 0 1 = cc in absurd (omega arith)
taken_next [] (suc k) n x xs h = let z : ◌≡◌ {A = ℕ} 0 1 = cc in absurd (omega arith)
taken_next (y ∷ l) zero n x xs h = (omega arith, cc, cc)
taken_next (y ∷ l) (suc k) n x xs h =
    let r = taken_next l k n x xs h in
    (omega (arith, r.0), r.1, rw (add-one (suc k)) (rw (add-one k) at r.2))
