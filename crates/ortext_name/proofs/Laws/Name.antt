-- Laws of personal names: what is read as a name is written back as it was, a short form reads back as its name, how long
-- the text is and which characters it has; and a step of each loop.
-- Assumes nothing.
use mathlib.Core.Path.{◌≡◌, refl, sym, ap, ap₂, subst, ◌∙◌}
use Prim.Native.Nat.{ℕ, zero, suc, ◌+◌, ◌-◌, ◌*◌, ◌≤◌, ◌<◌}
use native.Mathlib.Nat.{le_of_suc-le-suc}
use native.Mathlib.Numerals.{add-one}
use native.Mathlib.Omega.{arith}
use mathlib.Core.Bool.{Bool, true, false, not, ◌&&◌, ◌||◌, and-false, and-true, or-true}
use mathlib.Core.List.{List, [], ◌∷◌, ◌++◌, append_assoc}
use mathlib.Core.Option.{Option, none, some}
use borrow.Author.Tests.{eqb-true, eqb-false, ne_eqb, leb-true, le-leb, ltb-true, ltb-false, lt-ltb, le-ltb, not-true}
use lib.Dec.{eqb, leb, ltb, leb-suc-suc}
use lib.ListN.{length, take, drop, get_or, length-append, length-take, length-drop, drop_of_length-le, set}
use lib.Seq.{append_snoc, drop-append-add, drop-cons, drop-drop, sets, take-append_seam, take-length}
use Rattle.chars.specs.Lists.{all, first, member, non_empty}
use Rattle.chars.specs.Class.{between, is_letter}
use Rattle.chars.specs.Parts.{run}
use Rattle.chars.proofs.Laws.Lists.{all_append, and_left, and_right, by_test, or_cases, true_not_false}
use Rattle.chars.proofs.Laws.Seq.{no_length, some-append, some-length}
use Rattle.ortext_name.specs.Name.{Name, after_given, after_initials, dot_allowed, dotted, given_of, given_short, given_text, has_given, initials_of, is_short, name_text, read_name}
use Rattle.ortext_name.specs.Places.{given_end, letters_at, name_at}

-- ---- two tests, the second asked where the first holds

pub asked_both : {a b v p q : Bool} → a ≡ p → b ≡ q → a ≡ true → v ≡ b → v ≡ (p && q)
asked_both a b t v = rw (sym a ∙ t) (v ∙ b)

pub asked_first : {a v p : Bool} (q : Bool) → a ≡ p → a ≡ false → v ≡ a → v ≡ (p && q)
asked_first q a t v = rw (sym a ∙ t) (v ∙ t)

-- ---- the first dot

dot_is : (x : ℕ) → eqb 46 x ≡ eqb x 46
dot_is x =
    by_test (eqb x 46)
    (λ e. rw (eqb-true x 46 e))
    (λ e. ne_eqb 46 x (λ q. eqb-false x 46 e (sym q)) ∙ sym e)

-- a dot stands in the front of a text where the run stops short of it
pub member-take : (n : ℕ) (s : List ℕ) → member 46 (take n s) ≡ ltb (run 46 s) (length (take n s))
unfolding member run
member-take zero s = sym (le-ltb (run 46 s) 0 (omega arith))
member-take (suc n) [] = refl
member-take (suc n) (x ∷ s) =
    by_test (eqb x 46)
    (λ e. rw (dot_is x, e) (sym (lt-ltb 0 (suc (length (take n s))) (omega arith))))
    (λ e. rw (dot_is x, e) (member-take n s ∙ sym (leb-suc-suc (suc (run 46 s)) (length (take n s)))))

pub member-run : (s : List ℕ) → member 46 s ≡ ltb (run 46 s) (length s)
member-run s = rw take-length at (member-take (length s) s)

run_cut : (s : List ℕ) → run 46 s < length s → s ≡ take (run 46 s) s ++ 46 ∷ drop (suc (run 46 s)) s
unfolding run
run_cut [] h = absurd (omega arith)
run_cut (x ∷ s) h =
    by_test (eqb x 46)
    (λ e. rw e (ap (λ (y : ℕ). y ∷ s) (eqb-true x 46 e)))
    (λ e. rw e (ap (λ (t : List ℕ). x ∷ t) (run_cut s (le_of_suc-le-suc (rw e at h)))))

run-append : (g t : List ℕ) → member 46 g ≡ false → run 46 (g ++ 46 ∷ t) ≡ length g
unfolding run member
run-append [] t h = refl
run-append (x ∷ g) t h =
    by_test (eqb x 46)
    (λ e. true_not_false true refl (rw (dot_is x, e) at h))
    (λ e. rw e (ap suc (run-append g t (rw (dot_is x, e) at h))))

-- what the place of the first dot says
module _ (s : List ℕ) (dot : ℕ) (e : dot ≡ 0 + run 46 s) where
  pub dot-none : length s ≤ dot → member 46 s ≡ false
  dot-none h = member-run s ∙ le-ltb (run 46 s) (length s) (omega (arith, e))

  pub dot-some : dot < length s → member 46 s ≡ true
  dot-some h = member-run s ∙ lt-ltb (run 46 s) (length s) (omega (arith, e))

  pub dot-early : dot < length s → dot < 2 → member 46 (take 2 s) ≡ true
  dot-early h l = member-take 2 s ∙ lt-ltb (run 46 s) (length (take 2 s)) (rw length-take (omega (arith, e)))

  pub dot-late : 2 ≤ dot → member 46 (take 2 s) ≡ false
  dot-late h = member-take 2 s ∙ le-ltb (run 46 s) (length (take 2 s)) (rw length-take (omega (arith, e)))

-- what the test of a length says
pub is_bare : (x : List ℕ) {r : Bool} → r ≡ eqb (length x) 0 → r ≡ true → x ≡ []
is_bare x e f = let h = eqb-true (length x) 0 (sym e ∙ f) in no_length x (omega arith)

pub is_full : (x : List ℕ) {r : Bool} → r ≡ eqb (length x) 0 → r ≡ false → 0 < length x
is_full x e f = let h = eqb-false (length x) 0 (sym e ∙ f) in omega arith

pub some-full : (x : List ℕ) {r : Bool} → r ≡ eqb (length x) 0 → not r ≡ non_empty x
unfolding non_empty
some-full [] e = ap not e
some-full (x ∷ s) e = ap not e ∙ rw (ne_eqb (suc (length s)) 0 (λ f. omega arith))

-- ---- the pieces of a text

has_given_lem : (s : List ℕ) → has_given s ≡ true → (2 ≤ run 46 s) × (run 46 s < length s)
unfolding has_given
has_given_lem s e = (leb-true 2 (run 46 s) (and_left (leb 2 (run 46 s)) (ltb (run 46 s) (length s)) e), ltb-true (run 46 s) (length s) (and_right (leb 2 (run 46 s)) (ltb (run 46 s) (length s)) e))

given-split : (s : List ℕ) → given_text (given_of s) ++ after_given s ≡ s
unfolding given_text given_of after_given non_empty
given-split s =
    by_test (has_given s)
    (λ e. let h = has_given_lem s e in
    rw (e, some-length (take (run 46 s) s) (rw length-take (omega arith)), add-one, append_snoc) (sym (run_cut s h.1)))
    (λ e. rw e)

initials-split : (s : List ℕ) → dotted (initials_of s) ++ after_initials s ≡ s
unfolding dotted initials_of after_initials
initials-split [] = refl
initials-split (x ∷ []) = refl
initials-split (x ∷ y ∷ s) =
    by_test (is_letter x && eqb y 46)
    (λ e. rw e (ap₂ (λ (z : ℕ) (t : List ℕ). x ∷ z ∷ t) (sym (eqb-true y 46 (and_right (is_letter x) (eqb y 46) e))) (initials-split s)))
    (λ e. rw e)

-- the name that the pieces of s make
abbrev pieces : List ℕ → Name
pieces s = record { given = given_of s; initials = initials_of (after_given s); surname = after_initials (after_given s) }

read_is : (s : List ℕ) (n : Name) → read_name s ≡ some n → (n ≡ pieces s) × (non_empty n.surname ≡ true)
unfolding read_name
read_is s n h =
    by_test (non_empty (after_initials (after_given s)))
    (λ e. let q : ◌≡◌ {A = Option Name} (some (pieces s)) (some n) = rw e at h in
    let r : n ≡ pieces s = cc in (r, rw r e))
    (λ e. let q : ◌≡◌ {A = Option Name} none (some n) = rw e at h in
    let z : ◌≡◌ {A = ℕ} 0 1 = cc in absurd (omega arith))

pub name_text_lem : (s : List ℕ) (n : Name) → read_name s ≡ some n → name_text n ≡ s
unfolding name_text
name_text_lem s n h = rw ((read_is s n h).0, append_assoc, initials-split) (given-split s)

pub surname-some : (s : List ℕ) (n : Name) → read_name s ≡ some n → non_empty n.surname ≡ true
surname-some s n h = (read_is s n h).1

letters_of : (s : List ℕ) → all is_letter (initials_of s) ≡ true
unfolding initials_of all
letters_of [] = refl
letters_of (x ∷ []) = refl
letters_of (x ∷ y ∷ s) =
    by_test (is_letter x && eqb y 46)
    (λ e. rw (e, and_left (is_letter x) (eqb y 46) e) (letters_of s))
    (λ e. rw e)

given_of-short : (s : List ℕ) → given_short (given_of s) ≡ true
unfolding given_of given_short non_empty
given_of-short s =
    by_test (has_given s)
    (λ e. let h = has_given_lem s e in
    let k : length (take (run 46 s) s) ≡ run 46 s = rw length-take (omega arith) in
    rw (e, some-length (take (run 46 s) s) (omega arith), member-take (run 46 s) s, k, le-leb 2 (run 46 s) h.0, le-ltb (run 46 s) (run 46 s) (omega arith)))
    (λ e. rw e)

pub given-short : (s : List ℕ) (n : Name) → read_name s ≡ some n → given_short n.given ≡ true
given-short s n h = rw (read_is s n h).0 (given_of-short s)

-- ---- a short form reads back

-- what the tests of a short form say
record Short (n : Name) : Type 0 where
  surname : non_empty n.surname ≡ true
  letters : all is_letter n.initials ≡ true
  given : given_short n.given ≡ true
  dots : dot_allowed n ≡ true
  slash : eqb (first (name_text n)) 47 ≡ false

short_is : (n : Name) (gq : List ℕ) → is_short n gq ≡ true → Short n
unfolding is_short
short_is n gq h =
    let s = non_empty n.surname in
    let q = not (non_empty gq) in
    let l = all is_letter n.initials in
    let g = given_short n.given in
    let k = not (eqb (first (name_text n)) 47) in
    let h5 = and_left (s && q && l && g && dot_allowed n) k h in
    let h4 = and_left (s && q && l && g) (dot_allowed n) h5 in
    let h3 = and_left (s && q && l) g h4 in record {
      surname = and_left s q (and_left (s && q) l h3);
      letters = and_right (s && q) l h3;
      given = and_right (s && q && l) g h4;
      dots = and_right (s && q && l && g) (dot_allowed n) h5;
      slash = not-true (eqb (first (name_text n)) 47) (and_right (s && q && l && g && dot_allowed n) k h);
    }

letter_no_dot : (x : ℕ) → is_letter x ≡ true → eqb x 46 ≡ false
unfolding is_letter between
letter_no_dot x h = ne_eqb x 46 (λ q. true_not_false (is_letter x) h (ap is_letter q))

given-front : (g u : List ℕ) → 2 ≤ length g → member 46 g ≡ false → (given_of (g ++ 46 ∷ u) ≡ g) × (after_given (g ++ 46 ∷ u) ≡ u)
unfolding given_of after_given has_given
given-front g u l m =
    let r = run-append g u m in
    let k : has_given (g ++ 46 ∷ u) ≡ true = rw (r, le-leb 2 (length g) l) (lt-ltb (length g) (length (g ++ 46 ∷ u)) (rw length-append (omega arith))) in
    (rw (k, r) (take-append_seam g (46 ∷ u)), rw (k, r) (drop-append-add g (46 ∷ u) 1))

given_back : (g u : List ℕ) → given_short g ≡ true → (g ≡ [] → has_given u ≡ false) → (given_of (given_text g ++ u) ≡ g) × (after_given (given_text g ++ u) ≡ u)
unfolding given_of after_given given_text given_short non_empty
given_back [] u h f = (rw (f refl), rw (f refl))
given_back (x ∷ g) u h f =
    let t = x ∷ g in
    subst (λ (v : List ℕ). (given_of v ≡ t) × (after_given v ≡ u)) (sym (append_snoc t 46 u))
    (given-front t u (leb-true 2 (length t) (and_left (leb 2 (length t)) (not (member 46 t)) h)) (not-true (member 46 t) (and_right (leb 2 (length t)) (not (member 46 t)) h)))

no_given : (i s : List ℕ) → all is_letter i ≡ true → (i ≡ [] → member 46 s ≡ false) → has_given (dotted i ++ s) ≡ false
unfolding has_given dotted all run
no_given [] s h f = rw (sym (member-run s) ∙ f refl, and-false)
no_given (x ∷ i) s h f = rw (letter_no_dot x (and_left (is_letter x) (all is_letter i) h))

initials-back : (i s : List ℕ) → all is_letter i ≡ true → member 46 (take 2 s) ≡ false → (initials_of (dotted i ++ s) ≡ i) × (after_initials (dotted i ++ s) ≡ s)
unfolding dotted initials_of after_initials all member
initials-back [] [] h m = (refl, refl)
initials-back [] (x ∷ []) h m = (refl, refl)
initials-back [] (x ∷ y ∷ s) h m =
    by_test (eqb y 46)
    (λ e. true_not_false true refl (rw (dot_is y, e, or-true) at m))
    (λ e. (rw (e, and-false), rw (e, and-false)))
initials-back (x ∷ i) s h m =
    let l = and_left (is_letter x) (all is_letter i) h in
    let r = initials-back i s (and_right (is_letter x) (all is_letter i) h) m in
    (rw (l, r.0), rw (l, r.1))

dots_front : (n : Name) → dot_allowed n ≡ true → member 46 (take 2 n.surname) ≡ false
unfolding dot_allowed
dots_front n h =
    let s = n.surname in
    let p = non_empty n.given || non_empty n.initials in
    or_cases (not (member 46 s)) (not (member 46 (take 2 s)) && p) h
    (λ e. let l = ltb-false (run 46 s) (length s) (sym (member-run s) ∙ not-true (member 46 s) e) in
    member-take 2 s ∙ le-ltb (run 46 s) (length (take 2 s)) (rw length-take (omega arith)))
    (λ e. not-true (member 46 (take 2 s)) (and_left (not (member 46 (take 2 s))) p e))

dots_alone : (s : List ℕ) → dot_allowed (record { given = []; initials = []; surname = s }) ≡ true → member 46 s ≡ false
unfolding dot_allowed non_empty
dots_alone s h =
    or_cases (not (member 46 s)) (not (member 46 (take 2 s)) && false) h
    (λ e. not-true (member 46 s) e)
    (λ e. true_not_false true refl (sym (and_right (not (member 46 (take 2 s))) false e)))

pub name_short : (n : Name) (gq : List ℕ) → is_short n gq ≡ true → read_name (name_text n) ≡ some n
unfolding read_name name_text
name_short n gq h =
    let q = short_is n gq h in
    let g = given_back n.given (dotted n.initials ++ n.surname) q.given
    (λ e. no_given n.initials n.surname q.letters (λ f. dots_alone n.surname (rw (e, f) at q.dots))) in
    let i = initials-back n.initials n.surname q.letters (dots_front n q.dots) in
    rw (append_assoc, g.0, g.1, i.0, i.1, q.surname)

-- with no generation, one test fewer
pub short_tests : (n : Name)
    → is_short n [] ≡ (non_empty n.surname && all is_letter n.initials && given_short n.given && dot_allowed n && not (eqb (first (name_text n)) 47))
unfolding is_short non_empty
short_tests n = rw and-true

pub short_no_slash : (n : Name) (gq : List ℕ) → is_short n gq ≡ true → first (name_text n) ≡ 47 → ⊥
short_no_slash n gq h = eqb-false (first (name_text n)) 47 (short_is n gq h).slash

pub short-some : (n : Name) (gq : List ℕ) → is_short n gq ≡ true → non_empty (name_text n) ≡ true
unfolding name_text
short-some n gq h = some-append (given_text n.given ++ dotted n.initials) n.surname (short_is n gq h).surname

pub given-some : (g : List ℕ) → 0 < length g → given_text g ≡ g ++ 46 ∷ []
unfolding given_text
given-some g h = rw (some-length g h)

-- ---- the length of the text

pub length-dotted : (s : List ℕ) → length (dotted s) ≡ 2 * length s
unfolding dotted
length-dotted [] = refl
length-dotted (x ∷ s) = omega (arith, length-dotted s)

length-given : (g : List ℕ) → length (given_text g) ≤ length g + 1
unfolding given_text non_empty
length-given [] = omega arith
length-given (x ∷ g) = rw length-append (omega arith)

pub length_pieces : (n : Name) → length (name_text n) ≡ length (given_text n.given) + 2 * length n.initials + length n.surname
unfolding name_text
length_pieces n = simp (length-append, length-dotted)

pub length_name : (n : Name) → length (name_text n) ≤ length n.given + 1 + 2 * length n.initials + length n.surname
length_name n = omega (arith, length_pieces n, length-given n.given)

pub name_length : (s : List ℕ) (n : Name) → read_name s ≡ some n → length s ≤ length n.given + 1 + 2 * length n.initials + length n.surname
name_length s n h = rw (name_text_lem s n h) at (length_name n)

-- ---- the characters of the text

module _ (p : ℕ → Bool) where
  pub all-dotted : p 46 ≡ true → (s : List ℕ) → all p (dotted s) ≡ all p s
  unfolding all dotted
  all-dotted h [] = refl
  all-dotted h (x ∷ s) = rw (h, all-dotted h s)

  all-given : p 46 ≡ true → (g : List ℕ) → all p g ≡ true → all p (given_text g) ≡ true
  unfolding all given_text non_empty
  all-given h [] k = refl
  all-given h (x ∷ g) k = rw (all_append p (x ∷ g) (46 ∷ []), k, h)

  pub name_all : p 46 ≡ true → (n : Name) → all p n.given ≡ true → all p n.initials ≡ true → all p n.surname ≡ true → all p (name_text n) ≡ true
  unfolding name_text
  name_all h n a b c =
      rw (all_append p (given_text n.given ++ dotted n.initials) n.surname, all_append p (given_text n.given) (dotted n.initials), all-given h n.given a, all-dotted h n.initials, b, c)

-- ---- where the pieces of a text stand

pub given-at : (s : List ℕ) → given_of s ≡ take (given_end s - 1) s
unfolding given_of given_end
given-at s = by_test (has_given s) (λ e. rw (e, one-back (run 46 s))) (λ e. rw e)
  where
    one-back : (n : ℕ) → n + 1 - 1 ≡ n
    one-back n = omega arith

pub after-given-at : (s : List ℕ) → after_given s ≡ drop (given_end s) s
unfolding after_given given_end
after-given-at s = by_test (has_given s) (λ e. rw e) (λ e. rw e)

pub given-fits : (s : List ℕ) → given_end s ≤ length s
unfolding given_end
given-fits s = by_test (has_given s) (λ e. rw e (omega (arith, (has_given_lem s e).1))) (λ e. rw e (omega arith))

two-more : (n : ℕ) → 2 * suc n ≡ suc (suc (2 * n))
two-more n = omega arith

pub initials-at : (s : List ℕ) → letters_at (length (initials_of s)) s ≡ initials_of s
unfolding initials_of letters_at
initials-at [] = refl
initials-at (x ∷ []) = refl
initials-at (x ∷ y ∷ s) = by_test (is_letter x && eqb y 46) (λ e. rw (e, initials-at s)) (λ e. rw e)

pub after-initials-at : (s : List ℕ) → after_initials s ≡ drop (2 * length (initials_of s)) s
unfolding initials_of after_initials
after-initials-at [] = refl
after-initials-at (x ∷ []) = refl
after-initials-at (x ∷ y ∷ s) = by_test (is_letter x && eqb y 46) (λ e. rw (e, two-more (length (initials_of s))) (after-initials-at s)) (λ e. rw e)

pub initials_fit : (s : List ℕ) → 2 * length (initials_of s) ≤ length s
unfolding initials_of
initials_fit [] = omega arith
initials_fit (x ∷ []) = omega arith
initials_fit (x ∷ y ∷ s) = by_test (is_letter x && eqb y 46) (λ e. rw e (omega (arith, initials_fit s))) (λ e. rw e (omega arith))

-- the name by the places of its pieces
module _ (s : List ℕ) (from k : ℕ) (a : from ≡ given_end s) (b : k ≡ length (initials_of (drop from s))) where
  after_is : drop from s ≡ after_given s
  after_is = rw a (sym (after-given-at s))

  surname_is : drop (from + 2 * k) s ≡ after_initials (after_given s)
  surname_is = sym (drop-drop (2 * k) from s) ∙ rw (b, after_is) (sym (after-initials-at (after_given s)))

  pub name_none : length s ≤ from + 2 * k → none ≡ read_name s
  unfolding read_name non_empty
  name_none h = rw (sym surname_is, drop_of_length-le s h)

  pub name_found : (g : ℕ) → g ≡ from - 1 → from + 2 * k < length s
      → some (name_at s (record { given = g; from = from; initials = k; surname = from + 2 * k })) ≡ read_name s
  unfolding read_name name_at
  name_found g e h =
      let i : letters_at k (drop from s) ≡ initials_of (after_given s) = rw (b, after_is) (initials-at (after_given s)) in
      let f : take g s ≡ given_of s = rw (e, a) (sym (given-at s)) in
      let n = rw surname_is at (some-length (drop (from + 2 * k) s) (rw length-drop (omega arith))) in
      rw (f, i, surname_is, n)

-- ---- a step of each loop

two-on : (i : ℕ) → i + 2 ≡ suc (suc i)
two-on i = omega arith

drop-two : (s : List ℕ) (i : ℕ) → i + 2 ≤ length s → drop i s ≡ get_or s i 0 ∷ get_or s (i + 1) 0 ∷ drop (i + 2) s
drop-two s i h = rw (two-on i, add-one, drop-cons s i 0 (omega arith), drop-cons s (suc i) 0 (omega arith))

pub initials-short : (s : List ℕ) → length s < 2 → initials_of s ≡ []
unfolding initials_of
initials-short [] h = refl
initials-short (x ∷ []) h = refl
initials-short (x ∷ y ∷ s) h = absurd (omega arith)

pub initials_stop : (s : List ℕ) (i : ℕ) → i + 2 ≤ length s → is_letter (get_or s i 0) && eqb (get_or s (i + 1) 0) 46 ≡ false → initials_of (drop i s) ≡ []
unfolding initials_of
initials_stop s i h e = rw (drop-two s i h, e)

pub initials-more : (s : List ℕ) (i : ℕ) → i + 2 ≤ length s → is_letter (get_or s i 0) && eqb (get_or s (i + 1) 0) 46 ≡ true
    → initials_of (drop i s) ≡ get_or s i 0 ∷ initials_of (drop (i + 2) s)
unfolding initials_of
initials-more s i h e = rw (drop-two s i h, e)

pub letters_more : (s : List ℕ) (from n i : ℕ) → i < n → from + 2 * n ≤ length s
    → letters_at (n - i) (drop (from + 2 * i) s) ≡ get_or s (from + 2 * i) 0 ∷ letters_at (n - (i + 1)) (drop (from + 2 * (i + 1)) s)
unfolding letters_at
letters_more s from n i h l =
    let a : n - i ≡ suc (n - (i + 1)) = omega arith in
    let b : from + 2 * (i + 1) ≡ from + 2 * i + 2 = omega arith in
    rw (a, b, drop-two s (from + 2 * i) (omega arith))

pub length_letters : (n : ℕ) (s : List ℕ) → 2 * n ≤ length s → length (letters_at n s) ≡ n
unfolding letters_at
length_letters zero s h = refl
length_letters (suc n) [] h = absurd (omega arith)
length_letters (suc n) (x ∷ []) h = absurd (omega arith)
length_letters (suc n) (x ∷ y ∷ s) h = ap suc (length_letters n s (omega arith))

pub dotted-more : (l : List ℕ) (at : ℕ) (s : List ℕ) (i : ℕ) → i < length s
    → sets l (at + 2 * i) (dotted (drop i s)) ≡ sets (set (set l (at + 2 * i) (get_or s i 0)) (at + 2 * i + 1) 46) (at + 2 * (i + 1)) (dotted (drop (i + 1) s))
unfolding dotted
dotted-more l at s i h =
    let b : at + 2 * (i + 1) ≡ suc (suc (at + 2 * i)) = omega arith in
    rw (b, drop-cons s i 0, add-one i, add-one (at + 2 * i))

-- ---- the first byte of the text

pub first-given : (g i s : List ℕ) → 0 < length g → get_or g 0 0 ≡ first (name_text (record { given = g; initials = i; surname = s }))
unfolding name_text given_text non_empty first
first-given [] i s h = absurd (omega arith)
first-given (x ∷ g) i s h = refl

pub first_initial : (i s : List ℕ) → 0 < length i → get_or i 0 0 ≡ first (name_text (record { given = []; initials = i; surname = s }))
unfolding name_text given_text non_empty first dotted
first_initial [] s h = absurd (omega arith)
first_initial (x ∷ i) s h = refl

pub first-surname : (s : List ℕ) → get_or s 0 0 ≡ first (name_text (record { given = []; initials = []; surname = s }))
unfolding name_text given_text non_empty first dotted
first-surname [] = refl
first-surname (x ∷ s) = refl
