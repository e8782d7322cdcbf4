-- Writing pieces one after the other: the pieces of a list joined, and what a loop that writes them has left to write.
-- Assumes nothing.
use mathlib.Core.Path.{◌≡◌, refl, sym, ap, ◌∙◌}
use Prim.Native.Nat.{ℕ, zero, suc, ◌+◌, ◌-◌, ◌≤◌, ◌<◌}
use native.Mathlib.Numerals.{add-one}
use native.Mathlib.Omega.{arith}
use mathlib.Core.List.{List, [], ◌∷◌, ◌++◌, reverse, reverse-append}
use lib.ListN.{length, drop, get_or, take, length-take, length-append, drop_of_length-le}
use lib.Seq.{sets, drop-append-le, drop-cons, take-suc}
use Rattle.chars.specs.Write.{Wrote}
use Rattle.chars.proofs.Laws.Write.{sets-append, wrote-length}

-- ---- the pieces of a list, joined

module _ {A : Type 0} (f : A → List ℕ) where
  abbrev pub flat : List A → List ℕ
  flat [] = []
  flat (x ∷ l) = f x ++ flat l

  pub flat_step : (l : List A) (i : ℕ) (d : A) → i < length l → flat (drop i l) ≡ f (get_or l i d) ++ flat (drop (i + 1) l)
  flat_step l i d h = rw (add-one, drop-cons l i d)

  pub flat-end : (l : List A) (i : ℕ) → length l ≤ i → flat (drop i l) ≡ []
  flat-end l i h = rw (drop_of_length-le l)

  -- from the end down to place n
  pub flat_back : (n : ℕ) (l : List A) (i : ℕ) (d : A) → n < i → i ≤ length l
      → flat (reverse (drop n (take i l))) ≡ f (get_or l (i - 1) d) ++ flat (reverse (drop n (take (i - 1) l)))
  flat_back n l zero d h k = absurd (omega arith)
  flat_back n l (suc i) d h k =
      let e : suc i - 1 ≡ i = omega arith in
      rw (e, take-suc l i d k, drop-append-le n (take i l) (get_or l i d ∷ []) (simp length-take (omega arith)), reverse-append (drop n (take i l)) (get_or l i d ∷ []))

  pub flat-back-end : (n : ℕ) (l : List A) (i : ℕ) → i ≤ n → flat (reverse (drop n (take i l))) ≡ []
  flat-back-end n l i h =
      let k : length (take i l) ≤ n = simp length-take (omega arith) in
      rw (drop_of_length-le (take i l) k)

-- ---- what is left to write

-- a text to be written at a place of a buffer is written but for `rest`, which goes to place `next` of the buffer as it is now
pub record Left (old : List ℕ) (at : ℕ) (text : List ℕ) (new : List ℕ) (next : ℕ) (rest : List ℕ) : Type 0 where
  pub same : length new ≡ length old
  pub moved : next + length rest ≡ at + length text
  pub holds : sets old at text ≡ sets new next rest

pub left_all : {o t q : List ℕ} {i : ℕ} → t ≡ q → Left o i t o i q
left_all {o} {t} {q} {i} e = record { same = refl; moved = omega (arith, ap length e); holds = ap (sets o i) e }

pub left_more : {o t m n q s r : List ℕ} {i j k : ℕ} → Left o i t m j q → q ≡ s ++ r → Wrote m j s k n → Left o i t n k r
left_more {o} {t} {m} {n} {q} {s} {r} {i} {j} {k} l e w = record {
  same = wrote-length w ∙ l.same;
  moved = omega (arith, l.moved, ap length e, w.moved, length-append s r);
  holds = l.holds ∙ ap (sets m j) e ∙ sym (sets-append m j s r) ∙ rw (w.holds, w.moved);
}

pub left_none : {o t n q : List ℕ} {i k : ℕ} → Left o i t n k q → q ≡ [] → Wrote o i t k n
left_none {o} {t} {n} {q} {i} {k} l e = record { moved = omega (arith, l.moved, ap length e); holds = sym (l.holds ∙ ap (sets n k) e) }

-- there is room for a piece where there was room for the whole
pub left_room : {o t m q : List ℕ} {i j : ℕ} (s r : List ℕ) → Left o i t m j q → q ≡ s ++ r → i + length t ≤ length o → j + length s ≤ length m
left_room s r l e h = omega (arith, l.same, l.moved, ap length e, length-append s r)
