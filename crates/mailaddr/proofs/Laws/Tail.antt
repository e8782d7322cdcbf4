-- Laws of the shared tail: it is a tail of the first by whole parts, both have it case aside, none is longer, and where it
-- starts, as code finds it.
-- Assumes nothing.
use mathlib.Core.Path.{◌≡◌, refl, sym, ap, ap₂, ◌∙◌}
use Prim.Native.Nat.{ℕ, zero, suc, ◌+◌, ◌-◌, ◌≤◌, ◌<◌, suc-le-suc}
use native.Mathlib.Nat.{le_of_suc-le-suc, not-suc-le-zero}
use native.Mathlib.Omega.{arith}
use mathlib.Core.Bool.{true, false, cond}
use mathlib.Core.List.{List, [], ◌∷◌, ◌++◌, append_assoc, append-nil, reverse, reverse-append, reverse-cons}
use lib.ListN.{length, take, drop, length-append, length-drop, take-append-drop}
use lib.Seq.{append_snoc, drop_at, length-take-le, take_all}
use denote.Ref.{Bor}
use Rattle.chars.specs.Case.{agree, same_text}
use Rattle.chars.specs.Parts.{at, join, run}
use Rattle.chars.proofs.Laws.Lists.{and_both, and_left, and_right, by_test}
use Rattle.mailaddr.specs.Domain.{domain_of, parts_of}
use Rattle.mailaddr.specs.Tail.{TailShown, shared, shared_tail, tail_place}
use Rattle.mailaddr.proofs.Laws.Domain.{domain-parts, left_none, left_some, part-first, parts_left}

-- ---- a tail of the first by whole parts

join-tail : (xs ys : List (List ℕ)) → (pre : List ℕ) × (pre ++ join 46 ys ≡ join 46 (xs ++ ys))
unfolding join
join-tail [] ys = ([], refl)
join-tail (x ∷ []) [] = (x, append-nil x)
join-tail (x ∷ []) (y ∷ ys) = (x ++ (46 ∷ []), append_snoc x 46 (join 46 (y ∷ ys)))
join-tail (x ∷ z ∷ xs) ys =
    let r = join-tail (z ∷ xs) ys in
    (x ++ 46 ∷ r.0, append_assoc x (46 ∷ r.0) (join 46 ys) ∙ ap (λ (t : List ℕ). x ++ 46 ∷ t) r.1)

domain-tail : (k : ℕ) (ps : List (List ℕ)) → (pre : List ℕ) × (pre ++ domain_of (take k ps) ≡ domain_of ps)
unfolding domain_of
domain-tail k ps =
    let r = join-tail (reverse (drop k ps)) (reverse (take k ps)) in
    (r.0, r.1 ∙ ap (join 46) (sym (reverse-append (take k ps) (drop k ps)) ∙ ap reverse (take-append-drop k ps)))

pub tail-suffix : (a b : List ℕ) → (pre : List ℕ) × (pre ++ shared_tail a b ≡ a)
unfolding shared_tail
tail-suffix a b =
    let r = domain-tail (shared (parts_of a) (parts_of b)) (parts_of a) in
    (r.0, r.1 ∙ domain-parts a)

-- ---- both have it, and none is longer

shared-agree : (ps qs : List (List ℕ)) → agree same_text (take (shared ps qs) ps) (take (shared ps qs) qs) ≡ true
unfolding shared agree
shared-agree [] qs = refl
shared-agree (p ∷ ps) [] = refl
shared-agree (p ∷ ps) (q ∷ qs) = by_test (same_text p q) (λ e. rw e (and_both e (shared-agree ps qs))) (λ e. rw e)

pub tail-second : (a b : List ℕ) → let k = shared (parts_of a) (parts_of b) in agree same_text (take k (parts_of a)) (take k (parts_of b)) ≡ true
tail-second a b = shared-agree (parts_of a) (parts_of b)

shared-most : (j : ℕ) (ps qs : List (List ℕ)) → j ≤ length ps → j ≤ length qs → agree same_text (take j ps) (take j qs) ≡ true → j ≤ shared ps qs
unfolding shared agree
shared-most zero ps qs l m h = omega arith
shared-most (suc j) [] qs l m h = absurd (not-suc-le-zero l)
shared-most (suc j) (p ∷ ps) [] l m h = absurd (not-suc-le-zero m)
shared-most (suc j) (p ∷ ps) (q ∷ qs) l m h =
    rw (and_left (same_text p q) (agree same_text (take j ps) (take j qs)) h)
    (suc-le-suc
    (shared-most j ps qs (le_of_suc-le-suc l) (le_of_suc-le-suc m) (and_right (same_text p q) (agree same_text (take j ps) (take j qs)) h)))

pub tail-longest : (a b : List ℕ) (j : ℕ) → j ≤ length (parts_of a) → j ≤ length (parts_of b)
    → agree same_text (take j (parts_of a)) (take j (parts_of b)) ≡ true → j ≤ shared (parts_of a) (parts_of b)
tail-longest a b j l m h = shared-most j (parts_of a) (parts_of b) l m h

-- ---- how long it is

-- what parts take, each with a dot
unfoldable span : List (List ℕ) → ℕ
span [] = 0
span (p ∷ ps) = suc (length p + span ps)

-- what the parts take that two lists share
unfoldable pub spread : List (List ℕ) → List (List ℕ) → ℕ
unfolding same_text
spread [] qs = 0
spread (p ∷ ps) [] = 0
spread (p ∷ ps) (q ∷ qs) = cond (same_text p q) (suc (length p + spread ps qs)) 0

span_append : (ps qs : List (List ℕ)) → span (ps ++ qs) ≡ span ps + span qs
unfolding span
span_append [] qs = omega arith
span_append (p ∷ ps) qs = omega (arith, span_append ps qs)

span_reverse : (ps : List (List ℕ)) → span (reverse ps) ≡ span ps
unfolding span
span_reverse [] = refl
span_reverse (p ∷ ps) = ap span (reverse-cons p ps) ∙ omega (arith, span_append (reverse ps) (p ∷ []), span_reverse ps)

length-join : (ps : List (List ℕ)) → length (join 46 ps) ≡ span ps - 1
unfolding join span
length-join [] = refl
length-join (p ∷ []) = omega arith
length-join (p ∷ q ∷ ps) = omega (arith, length-append p (46 ∷ join 46 (q ∷ ps)), length-join (q ∷ ps))

shared_span : (ps qs : List (List ℕ)) → span (take (shared ps qs) ps) ≡ spread ps qs
unfolding shared span spread
shared_span [] qs = refl
shared_span (p ∷ ps) [] = refl
shared_span (p ∷ ps) (q ∷ qs) = by_test (same_text p q) (λ e. rw (e, shared_span ps qs)) (λ e. rw e)

pub tail-length : (a b : List ℕ) → length (shared_tail a b) ≡ spread (parts_of a) (parts_of b) - 1
unfolding shared_tail domain_of
tail-length a b =
    let ps : List (List ℕ) = parts_of a in
    let qs : List (List ℕ) = parts_of b in
    length-join (reverse (take (shared ps qs) ps))
    ∙ ap (λ (n : ℕ). n - 1) (span_reverse (take (shared ps qs) ps) ∙ shared_span ps qs)

-- it is what the first has from its start on
pub tail-drop : (a b : List ℕ) → drop (length a - length (shared_tail a b)) a ≡ shared_tail a b
tail-drop a b =
    let r = tail-suffix a b in
    let n : ℕ = length a - length (shared_tail a b) in
    ap (drop n) (sym r.1)
    ∙ drop_at r.0 (shared_tail a b) n (omega (arith, ap length r.1, length-append r.0 (shared_tail a b)))

-- what stands at its place in the first is the tail
pub tail-place : (a b : List ℕ) → at a (tail_place a b) ≡ shared_tail a b
unfolding at
tail-place a b =
    let n : ℕ = length a - length (shared_tail a b) in
    take_all (length (shared_tail a b)) (drop n a) (omega (arith, ap length (tail-drop a b))) ∙ tail-drop a b

-- the part of the first from where it starts up to the end shows it
pub tail-shown : (a : Bor (List ℕ)) (b : List ℕ) (part : Bor (List ℕ)) (r : ℕ) → r ≡ length a.now - length (shared_tail a.now b)
    → part.now ≡ take (length a.now - r) (drop r a.now) → part.ref_ptr.0 ≡ a.ref_ptr.0 → part.ref_ptr.1 ≡ r + a.ref_ptr.1 → TailShown a b part
tail-shown a b part r e h w p =
    let s : List ℕ = a.now in
    let t : part.now ≡ shared_tail s b =
    h ∙ take_all (length s - r) (drop r s) (omega (arith, length-drop r s)) ∙ ap (λ (n : ℕ). drop n s) e ∙ tail-drop s b in
    record { tail = t; place = record { holds = t ∙ sym (tail-place s b); within = w; stands = p ∙ ap (λ (n : ℕ). n + a.ref_ptr.1) e } }

-- where it starts, by what its parts take
pub tail_at : (a b : List ℕ) (p : ℕ) → p ≤ length a → spread (parts_of a) (parts_of b) + p ≡ suc (length a) → p ≡ length a - length (shared_tail a b)
tail_at a b p h e = omega (arith, tail-length a b)

-- ---- a turn of the loop that compares part by part

spread_none : (ps : List (List ℕ)) → spread ps [] ≡ 0
unfolding spread
spread_none [] = refl
spread_none (p ∷ ps) = refl

-- nothing is left of the first, of the second; else the parts before the dots
pub spread_first : (a : List ℕ) (p : ℕ) (qs : List (List ℕ)) → p ≡ 0 → spread (parts_left a p) qs ≡ 0
unfolding spread
spread_first a p qs h = ap (λ (ps : List (List ℕ)). spread ps qs) (left_none a p h)

pub spread_second : (ps : List (List ℕ)) (b : List ℕ) (q : ℕ) → q ≡ 0 → spread ps (parts_left b q) ≡ 0
spread_second ps b q h = ap (spread ps) (left_none b q h) ∙ spread_none ps

pub spread_more : (a b : List ℕ) (p q : ℕ) → 0 < p → 0 < q
    → spread (parts_left a p) (parts_left b q) ≡ spread (parts_of (take (p - 1) a)) (parts_of (take (q - 1) b))
spread_more a b p q h k = ap₂ spread (left_some a p h) (left_some b q k)

-- the parts that end at i and j start at p and q
module _ (a b : List ℕ) (i j p q : ℕ) (in-a : i ≤ length a) (in_b : j ≤ length b)
    (starts-a : p ≡ i - run 46 (reverse (take i a))) (starts-b : q ≡ j - run 46 (reverse (take j b))) where
  pub spread_differ : same_text (take (i - p) (drop p a)) (take (j - q) (drop q b)) ≡ false → spread (parts_of (take i a)) (parts_of (take j b)) ≡ 0
  unfolding spread
  spread_differ e = rw (part-first a i p in-a starts-a, part-first b j q in_b starts-b, e)

  pub spread_same : same_text (take (i - p) (drop p a)) (take (j - q) (drop q b)) ≡ true
      → spread (parts_of (take i a)) (parts_of (take j b)) + p ≡ suc (i + spread (parts_left a p) (parts_left b q))
  unfolding spread
  spread_same e =
      let l : length (take (i - p) (drop p a)) ≡ i - p = length-take-le (i - p) (drop p a) (omega (arith, length-drop p a)) in
      rw (part-first a i p in-a starts-a, part-first b j q in_b starts-b, e, l) (omega arith)
