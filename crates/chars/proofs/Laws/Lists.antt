-- Laws of tests and of `all`, `first` and `last`, for any test and any list.
-- Assumes nothing.
use Rattle.std.specs.List.{list_all}
use mathlib.Core.Path.{◌≡◌, refl, sym, ap, ap₂, ◌∙◌}
use mathlib.Core.Bool.{Bool, true, false, not, ◌&&◌, ◌||◌, true≢false, and_assoc, and_comm, and-true, or-true}
use mathlib.Core.List.{List, [], ◌∷◌, ◌++◌, map, reverse, reverse-cons}
use Prim.Native.Nat.{ℕ, zero, suc, ◌+◌, ◌-◌, ◌≤◌, ◌<◌, suc-le-suc}
use native.Mathlib.Nat.{le_of_suc-le-suc, not-suc-le-zero, zero-lt-suc}
use native.Mathlib.Omega.{arith}
use native.Mathlib.Numerals.{add-one}
use lib.Dec.{eqb}
use borrow.Author.Tests.{eqb-true, not-false, not-true}
use lib.ListN.{length, get_or, take, drop, drop_of_length-le}
use lib.Seq.{drop-cons, drop-drop, get_or-drop}
use Rattle.chars.specs.Lists.{all, first, last, member}

-- ---- tests

pub true_not_false : {X : Type 0} (t : Bool) → t ≡ true → t ≡ false → X
true_not_false t e f = absurd (true≢false (sym e ∙ f))

-- a case split that keeps the equation
pub by_test : {X : Type 0} (t : Bool) → (t ≡ true → X) → (t ≡ false → X) → X
by_test true f g = f refl
by_test false f g = g refl

pub bool_same : (a b : Bool) → (a ≡ true → b ≡ true) → (b ≡ true → a ≡ true) → a ≡ b
bool_same true b f g = sym (f refl)
bool_same false true f g = g refl
bool_same false false f g = refl

pub and_left : (a b : Bool) → (a && b) ≡ true → a ≡ true
and_left true b e = refl
and_left false b e = e

pub and_right : (a b : Bool) → (a && b) ≡ true → b ≡ true
and_right true b e = e
and_right false b e = true_not_false true refl (sym e)

pub and_both : {a b : Bool} → a ≡ true → b ≡ true → (a && b) ≡ true
and_both {a} {b} e f = rw e f

pub or_left : (a b : Bool) → a ≡ true → (a || b) ≡ true
or_left a b e = rw e

pub or_right : (a b : Bool) → b ≡ true → (a || b) ≡ true
or_right a b e = rw (e, or-true)

-- one of the two holds
pub or_cases : {X : Type 0} (a b : Bool) → (a || b) ≡ true → (a ≡ true → X) → (b ≡ true → X) → X
or_cases true b e f g = f refl
or_cases false b e f g = g e

pub and-three : (a b c : Bool) → (a && b && c) ≡ true → (a ≡ true) × (b ≡ true) × (c ≡ true)
and-three a b c h = (and_left a b (and_left (a && b) c h), and_right a b (and_left (a && b) c h), and_right (a && b) c h)

-- what a call answered, where the code went on, and where it stopped
pub passed : {r t : Bool} → r ≡ t → not r ≡ false → t ≡ true
passed {r} e h = sym e ∙ not-false r h

pub failed : {r t : Bool} → r ≡ t → not r ≡ true → t ≡ false
failed {r} e h = sym e ∙ not-true r h

-- none of the two holds
pub neither : (a b : Bool) → (a || b) ≡ false → (a ≡ false) × (b ≡ false)
neither true b h = (h, true_not_false true refl h)
neither false b h = (refl, h)

-- (a and b) and (c and d), the other way round
pub and_swap : (a b c d : Bool) → (a && b && (c && d)) ≡ (a && c && (b && d))
and_swap true true c d = refl
and_swap true false true d = refl
and_swap true false false d = refl
and_swap false b c d = refl

-- ---- all

module _ {A : Type 0} where
  pub all_append : (p : A → Bool) (s t : List A) → all p (s ++ t) ≡ (all p s && all p t)
  unfolding all
  all_append p [] t = refl
  all_append p (x ∷ s) t = rw (all_append p s t, and_assoc)

  pub all_take : (p : A → Bool) (n : ℕ) (s : List A) → all p s ≡ true → all p (take n s) ≡ true
  unfolding all
  all_take p zero s h = refl
  all_take p (suc n) [] h = refl
  all_take p (suc n) (x ∷ s) h = and_both (and_left (p x) (all p s) h) (all_take p n s (and_right (p x) (all p s) h))

  pub all_drop : (p : A → Bool) (n : ℕ) (s : List A) → all p s ≡ true → all p (drop n s) ≡ true
  unfolding all
  all_drop p zero s h = h
  all_drop p (suc n) [] h = refl
  all_drop p (suc n) (x ∷ s) h = all_drop p n s (and_right (p x) (all p s) h)

  pub all_ext : (p q : A → Bool) → ((x : A) → p x ≡ q x) → (s : List A) → all p s ≡ all q s
  unfolding all
  all_ext p q e [] = refl
  all_ext p q e (x ∷ s) = rw (e x, all_ext p q e s)

  pub all_weaken : (p q : A → Bool) → ((x : A) → p x ≡ true → q x ≡ true) → (s : List A) → all p s ≡ true → all q s ≡ true
  unfolding all
  all_weaken p q f [] h = refl
  all_weaken p q f (x ∷ s) h = and_both (f x (and_left (p x) (all p s) h)) (all_weaken p q f s (and_right (p x) (all p s) h))

  pub all-and : (p q : A → Bool) (s : List A) → all (λ x. p x && q x) s ≡ (all p s && all q s)
  unfolding all
  all-and p q [] = refl
  all-and p q (x ∷ s) = rw (all-and p q s) (and_swap (p x) (q x) (all p s) (all q s))

  -- what holds of all holds at each place
  pub all-at : (p : A → Bool) (s : List A) (i : ℕ) (d : A) → all p s ≡ true → i < length s → p (get_or s i d) ≡ true
  unfolding all
  all-at p [] i d h l = absurd (not-suc-le-zero l)
  all-at p (x ∷ s) zero d h l = and_left (p x) (all p s) h
  all-at p (x ∷ s) (suc i) d h l = all-at p s i d (and_right (p x) (all p s) h) (le_of_suc-le-suc l)

  -- what holds at each place holds of all
  pub all-each : (p : A → Bool) (s : List A) (d : A) → ((i : ℕ) → i < length s → p (get_or s i d) ≡ true) → all p s ≡ true
  unfolding all
  all-each p [] d f = refl
  all-each p (x ∷ s) d f = and_both (f zero (zero-lt-suc (length s))) (all-each p s d (λ i l. f (suc i) (suc-le-suc l)))

pub all_map : {A B : Type 0} (p : B → Bool) (f : A → B) (s : List A) → all p (map f s) ≡ all (λ x. p (f x)) s
unfolding all
all_map p f [] = refl
all_map p f (x ∷ s) = rw (all_map p f s)

-- a member has what all have
pub all-member : (p : ℕ → Bool) (s : List ℕ) (b : ℕ) → all p s ≡ true → member b s ≡ true → p b ≡ true
unfolding all member
all-member p [] b h m = true_not_false true refl (sym m)
all-member p (x ∷ s) b h m =
    or_cases (eqb b x) (member b s) m
    (λ e. rw (eqb-true b x e) (and_left (p x) (all p s) h))
    (λ e. all-member p s b (and_right (p x) (all p s) h) e)

-- a byte that differs from all is no member
pub all_no_member : (b : ℕ) (s : List ℕ) → all (λ x. not (eqb b x)) s ≡ not (member b s)
unfolding all member
all_no_member b [] = refl
all_no_member b (x ∷ s) = by_test (eqb b x) (λ e. rw e) (λ e. rw e (all_no_member b s))

-- the first byte, and the first two, where 0 passes the test
all_head : (p : ℕ → Bool) → p 0 ≡ true → (s : List ℕ) → all p s ≡ (p (get_or s 0 0) && all p (drop 1 s))
unfolding all
all_head p z [] = rw z
all_head p z (x ∷ s) = refl

pub all_two : (p : ℕ → Bool) → p 0 ≡ true → (s : List ℕ) → p (get_or s 0 0) ≡ true → p (get_or s 1 0) ≡ true → all p s ≡ all p (drop 2 s)
all_two p z s a b =
    all_head p z s
    ∙ rw (a, all_head p z (drop 1 s), get_or-drop 1 s 0 0, b, drop-drop 1 1 s)

pub all-reverse : {A : Type 0} (p : A → Bool) (s : List A) → all p (reverse s) ≡ all p s
unfolding all
all-reverse p [] = refl
all-reverse p (x ∷ s) =
    ap (all p) (reverse-cons x s)
    ∙ all_append p (reverse s) (x ∷ [])
    ∙ ap₂ (λ (a b : Bool). a && b) (all-reverse p s) (and-true (p x))
    ∙ and_comm (all p s) (p x)

-- std's word for it, by which a chain of iterators answers
pub all_list : {A : Type 0} (p : A → Bool) (s : List A) → list_all p s ≡ all p s
unfolding all
all_list p [] = refl
all_list p (x ∷ s) = rw (all_list p s)

-- ---- all of what a loop has left

pub all_step : {A : Type 0} (p : A → Bool) (s : List A) (i : ℕ) (d : A) → i < length s → all p (drop i s) ≡ (p (get_or s i d) && all p (drop (i + 1) s))
unfolding all
all_step p s i d h = rw (add-one, drop-cons s i d)

pub all_end : {A : Type 0} (p : A → Bool) (s : List A) (i : ℕ) → length s ≤ i → all p (drop i s) ≡ true
unfolding all
all_end p s i h = rw (drop_of_length-le s)

-- ---- the first and the last

pub first-at : (s : List ℕ) → first s ≡ get_or s 0 0
unfolding first
first-at [] = refl
first-at (x ∷ s) = refl

pub one_less : (n : ℕ) → suc n - 1 ≡ n
one_less n = omega arith

pub last-at : (s : List ℕ) → last s ≡ get_or s (length s - 1) 0
unfolding last
last-at [] = refl
last-at (x ∷ []) = refl
last-at (x ∷ y ∷ s) = rw (last-at (y ∷ s), one_less (length s), one_less (suc (length s)))

-- the first of two texts is that of the first, unless it is empty
pub first-append : (s t : List ℕ) → 0 < length s → first (s ++ t) ≡ first s
unfolding first
first-append [] t h = absurd (not-suc-le-zero h)
first-append (x ∷ s) t h = refl

-- the last of two texts is that of the second, unless it is empty
pub last-append : (s t : List ℕ) → 0 < length t → last (s ++ t) ≡ last t
unfolding last
last-append [] t h = refl
last-append (x ∷ []) [] h = absurd (not-suc-le-zero h)
last-append (x ∷ []) (y ∷ t) h = refl
last-append (x ∷ z ∷ s) t h = last-append (z ∷ s) t h

pub last_cons : (x : ℕ) (s : List ℕ) → 0 < length s → last (x ∷ s) ≡ last s
last_cons x s h = last-append (x ∷ []) s h
