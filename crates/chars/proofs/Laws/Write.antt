-- Laws of text written into a buffer: two writes in a row are one, a write keeps the length, and what the buffer then holds.
-- Assumes nothing.
use Rattle.std.proofs.Common.{Some, None}
use Rattle.std.proofs.lemmas.Option.{none-some, same_Some}
use mathlib.Core.Path.{◌≡◌, refl, sym, ap, subst, ◌∙◌}
use Prim.Native.Nat.{ℕ, zero, suc, ◌+◌, ◌-◌, ◌≤◌, ◌<◌}
use native.Mathlib.Nat.{add-zero, add-suc, suc-add, zero-add}
use native.Mathlib.Numerals.{add-one}
use native.Mathlib.Omega.{arith}
use mathlib.Core.List.{List, [], ◌∷◌, ◌++◌, append_assoc}
use borrow.Author.Tests.{le-ltb, lt-ltb, ltb-false, ltb-true}
use borrow.Rule.Slice.PartMut.{put_mid}
use lib.Dec.{ltb}
use lib.ListN.{length, take, drop, set, get_or, length-append, length-drop, length-take, take-append-drop}
use lib.Seq.{sets, sets-eq, set_comm, set_out, set-set, drop-append-le, drop-drop, take-add, length-sets, take-append_seam, take_at, length-take-le, drop-append_seam, drop-cons}
use Rattle.chars.specs.Write.{Wrote, front, placed_buffer, placed_size}
use Rattle.chars.proofs.Laws.Lists.{by_test}

-- two runs of stores, one after the other
pub sets-append : (l : List ℕ) (i : ℕ) (s t : List ℕ) → sets (sets l i s) (i + length s) t ≡ sets l i (s ++ t)
sets-append l i [] t = rw add-zero
sets-append l i (x ∷ s) t =
    ap (λ (k : ℕ). sets (sets (set l i x) (suc i) s) k t) (add-suc i (length s) ∙ sym (suc-add i (length s)))
    ∙ sets-append (set l i x) (suc i) s t

-- a turn of a loop that stores s: what is left to store, from place k on
pub sets_step : (l : List ℕ) (k : ℕ) (s : List ℕ) (i : ℕ) → i < length s
    → sets l (k + i) (drop i s) ≡ sets (set l (k + i) (get_or s i 0)) (k + (i + 1)) (drop (i + 1) s)
sets_step l k s i h = rw (add-one, drop-cons s i 0, add-suc k i)

-- stores past the end of a buffer change nothing
pub sets_out : (l : List ℕ) (i : ℕ) (s : List ℕ) → length l ≤ i → sets l i s ≡ l
sets_out l i [] h = refl
sets_out l i (x ∷ s) h = rw (set_out l i x h) (sets_out l (suc i) s (omega arith))

sets-under : (x : ℕ) (l : List ℕ) (i : ℕ) (s : List ℕ) → sets (x ∷ l) (suc i) s ≡ x ∷ sets l i s
sets-under x l i [] = refl
sets-under x l i (y ∷ s) = sets-under x (set l i y) (suc i) s

pub sets-front : (l s : List ℕ) → sets l 0 s ≡ front (take (length l) s) l
unfolding front
sets-front [] s = sets_out [] 0 s (omega arith)
sets-front (x ∷ l) [] = refl
sets-front (x ∷ l) (y ∷ s) = sets-under y l 0 s ∙ ap (λ t. y ∷ t) (sets-front l s)

-- a text copied over a part of a buffer that is as long is a write of it
pub wrote-part : (o : List ℕ) (i k : ℕ) (s t : List ℕ) → t ≡ s → k ≡ length s → i + length s ≤ length o → Wrote o i s (i + length s) (put_mid i k o t)
wrote-part o i k s t e f h = record {
  moved = refl;
  holds = rw (e, f, drop-drop (length s) i o) (sym (append_assoc (take i o) s (drop (i + length s) o)) ∙ sym (sets-eq s o i h));
}

pub wrote_nothing : {o : List ℕ} {i : ℕ} → Wrote o i [] i o
wrote_nothing {o} {i} = record { moved = sym (add-zero i); holds = refl }

-- a store is a write of one byte
pub wrote_one : {o : List ℕ} {i : ℕ} (b : ℕ) → Wrote o i (b ∷ []) (i + 1) (set o i b)
wrote_one b = record { moved = refl; holds = refl }

pub wrote_then : {o m n s t : List ℕ} {i j k : ℕ} → Wrote o i s j m → Wrote m j t k n → Wrote o i (s ++ t) k n
wrote_then {o} {m} {n} {s} {t} {i} {j} {k} a b = record {
  moved = omega (arith, a.moved, b.moved, length-append s t);
  holds = b.holds ∙ rw (a.holds, a.moved) (sets-append o i s t);
}

-- a write of a text is one of an equal text
pub wrote_as : {o n : List ℕ} {i j : ℕ} (s t : List ℕ) → s ≡ t → Wrote o i s j n → Wrote o i t j n
wrote_as {o} {n} {i} {j} s t e w = subst (λ (u : List ℕ). Wrote o i u j n) e w

pub wrote-length : {o n s : List ℕ} {i j : ℕ} → Wrote o i s j n → length n ≡ length o
wrote-length {o} {n} {s} {i} w = ap length w.holds ∙ length-sets o i s

-- a store in front of a run of stores can as well come before it
set-sets : (l : List ℕ) (i : ℕ) (s : List ℕ) (j y : ℕ) → j < i → set (sets l i s) j y ≡ sets (set l j y) i s
set-sets l i [] j y h = refl
set-sets l i (x ∷ s) j y h =
    set-sets (set l i x) (suc i) s j y (omega arith)
    ∙ ap (λ (m : List ℕ). sets m (suc i) s) (set_comm l i j x y (λ e. absurd (omega arith)))

-- a run of stores over another one, which begins a places further on and ends no later
sets_over : (l : List ℕ) (i a : ℕ) (s t : List ℕ) → a + length s ≤ length t → sets (sets l (i + a) s) i t ≡ sets l i t
sets_over l i a [] t h = refl
sets_over l i a (x ∷ s) [] h = absurd (omega arith)
sets_over l i zero (x ∷ s) (y ∷ t) h =
    ap (λ (p : ℕ). sets (sets l p (x ∷ s)) i (y ∷ t)) (add-zero i)
    ∙ ap (λ (k : List ℕ). sets k (suc i) t) (set-sets (set l i x) (suc i) s i y (omega arith) ∙ ap (λ (k : List ℕ). sets k (suc i) s) (set-set l i x y))
    ∙ sym (ap (λ (p : ℕ). sets (sets (set l i y) p s) (suc i) t) (add-zero (suc i)))
    ∙ sets_over (set l i y) (suc i) zero s t (omega arith)
sets_over l i (suc a) (x ∷ s) (y ∷ t) h =
    ap (λ (k : List ℕ). sets k (suc i) t) (set-sets l (i + suc a) (x ∷ s) i y (omega arith) ∙ ap (λ (k : ℕ). sets (set l i y) k (x ∷ s)) (add-suc i a ∙ sym (suc-add i a)))
    ∙ sets_over (set l i y) (suc i) a (x ∷ s) t (omega arith)

-- a text over one that lies within it: that one is gone
pub wrote_over : {o m n s t : List ℕ} {p i j k : ℕ} → Wrote o p s j m → Wrote m i t k n → i ≤ p → p + length s ≤ i + length t → Wrote o i t k n
wrote_over {o} {m} {n} {s} {t} {p} {i} u v h g =
    let e : p ≡ i + (p - i) = omega arith in
    record { moved = v.moved; holds = v.holds ∙ ap (λ (l : List ℕ). sets l i t) (u.holds ∙ ap (λ (q : ℕ). sets o q s) e) ∙ sets_over o i (p - i) s t (omega arith) }

-- with room: before the text and after it the buffer is as it was
pub wrote-place : {o n t : List ℕ} {i j : ℕ} → Wrote o i t j n → i + length t ≤ length o → n ≡ take i o ++ t ++ drop (i + length t) o
wrote-place {o} {n} {t} {i} w h = w.holds ∙ sets-eq t o i h

-- stores from the front on of a text that there is room for
pub fits_front : (o t : List ℕ) → length t ≤ length o → sets o 0 t ≡ front t o
unfolding front
fits_front o t h = sets-eq t o 0 (omega arith) ∙ rw zero-add

pub wrote-front : {o n t : List ℕ} {j : ℕ} → Wrote o 0 t j n → length t ≤ length o → n ≡ front t o
wrote-front {o} {n} {t} w h = w.holds ∙ fits_front o t h

-- what stands in front of the next text: what stood in front of this one, and this one
pub wrote-take : {o n t : List ℕ} {i j : ℕ} → Wrote o i t j n → i + length t ≤ length o → take j n ≡ take i o ++ t
wrote-take {o} {n} {t} {i} {j} w h =
    let e : length (take i o ++ t) ≡ j = simp length-append (omega (arith, length-take-le i o (omega arith), w.moved)) in
    ap (take j) (wrote-place w h) ∙ take_at (take i o ++ t) (drop (i + length t) o) j e

-- a text at the front of a part, the k bytes from a on, is at a in the whole
pub wrote-within : (a k : ℕ) {o n t : List ℕ} {j : ℕ} → Wrote (take k (drop a o)) 0 t j n → length t ≤ length (take k (drop a o)) → a ≤ length o
    → Wrote o a t (a + j) (take a o ++ (n ++ drop k (drop a o)))
unfolding front
wrote-within a k {o} {n} {t} {j} w h in-o =
    let d = drop a o in
    let fits : a + length t ≤ length o = omega (arith, length-take k d, length-drop a o) in
    let rest : drop (length t) (take k d) ++ drop k d ≡ drop (a + length t) o =
    sym (drop-append-le (length t) (take k d) (drop k d) h) ∙ ap (drop (length t)) (take-append-drop k d) ∙ drop-drop (length t) a o in
    record {
      moved = omega (arith, w.moved);
      holds =
          ap (λ (m : List ℕ). take a o ++ (m ++ drop k d)) (wrote-front w h)
          ∙ ap (λ (m : List ℕ). take a o ++ m) (append_assoc t (drop (length t) (take k d)) (drop k d) ∙ ap (λ (m : List ℕ). t ++ m) rest)
          ∙ sym (append_assoc (take a o) t (drop (a + length t) o)) ∙ sym (sets-eq t o a fits);
    }

-- what stands in a buffer is written there
pub wrote-same : {o : List ℕ} (i n : ℕ) → i + n ≤ length o → Wrote o i (take n (drop i o)) (i + n) o
wrote-same {o} i n h =
    let l : length (take n (drop i o)) ≡ n = length-take-le n (drop i o) (omega (arith, length-drop i o)) in
    record {
      moved = omega (arith, l);
      holds =
          sym (sets-eq (take n (drop i o)) o i (omega (arith, l)) ∙ ap (λ (k : ℕ). take i o ++ take n (drop i o) ++ drop (i + k) o) l
          ∙ ap (λ (m : List ℕ). m ++ drop (i + n) o) (sym (take-add i n o)) ∙ take-append-drop (i + n) o);
    }

pub length_front : (t o : List ℕ) → length t ≤ length o → length (front t o) ≡ length o
unfolding front
length_front t o h = simp (length-append, length-drop) (omega arith)

pub take-front : (t o : List ℕ) → take (length t) (front t o) ≡ t
unfolding front
take-front t o = take-append_seam t (drop (length t) o)

pub drop-front : (t o : List ℕ) → drop (length t) (front t o) ≡ drop (length t) o
unfolding front
drop-front t o = drop-append_seam t (drop (length t) o)

-- a text that was written to the front of a buffer with room for it stands there
pub wrote_taken : {o n t : List ℕ} {j : ℕ} → Wrote o 0 t j n → length t ≤ length o → take j n ≡ t
wrote_taken {o} {n} {t} {j} w h =
    let e : j ≡ length t = omega (arith, w.moved) in
    ap (λ (k : ℕ). take k n) e ∙ ap (take (length t)) (wrote-front w h) ∙ take-front t o

-- ---- a text for the front of a buffer

pub placed_fits : (s o : List ℕ) → length s ≤ length o → (placed_size s o ≡ Some (length s)) × (placed_buffer s o ≡ front s o)
unfolding placed_size placed_buffer
placed_fits s o h = let e = le-ltb (length o) (length s) h in (rw e, rw e)

pub placed_short : (s o : List ℕ) → length o < length s → (placed_size s o ≡ None) × (placed_buffer s o ≡ o)
unfolding placed_size placed_buffer
placed_short s o h = let e = lt-ltb (length o) (length s) h in (rw e, rw e)

-- what the answer of a call says of the text and the buffer
pub placed_some : (s o n : List ℕ) (k : ℕ) → Some k ≡ placed_size s o → n ≡ placed_buffer s o → (k ≡ length s) × (length s ≤ length o) × (n ≡ front s o)
placed_some s o n k h e =
    by_test (ltb (length o) (length s))
    (λ t. absurd (none-some k (sym (h ∙ (placed_short s o (ltb-true (length o) (length s) t)).0))))
    (λ t. let l = ltb-false (length o) (length s) t in
    (same_Some k (length s) (h ∙ (placed_fits s o l).0), l, e ∙ (placed_fits s o l).1))

pub placed_none : (s o n : List ℕ) → None ≡ placed_size s o → n ≡ placed_buffer s o → (length o < length s) × (n ≡ o)
placed_none s o n h e =
    by_test (ltb (length o) (length s))
    (λ t. let l = ltb-true (length o) (length s) t in
    (l, e ∙ (placed_short s o l).1))
    (λ t. absurd (none-some (length s) (h ∙ (placed_fits s o (ltb-false (length o) (length s) t)).0)))
