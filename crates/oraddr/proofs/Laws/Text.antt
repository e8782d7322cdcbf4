-- Laws of a text in its room: a struct made of a text shows that text, has its length, and is clean past it.
-- Assumes nothing.
use mathlib.Core.Path.{◌≡◌, refl, ◌∙◌}
use Prim.Native.Nat.{ℕ, zero, suc, ◌≤◌}
use mathlib.Core.Bool.{true, false, and-true}
use mathlib.Core.List.{List, [], ◌∷◌}
use native.Mathlib.Omega.{arith}
use lib.Dec.{eqb}
use lib.ListN.{length, get_or, take, replicate, length-replicate}
use Rattle.chars.specs.Lists.{all}
use Rattle.chars.specs.Case.{agree, equal_text}
use Rattle.chars.specs.Write.{Wrote, front}
use Rattle.chars.proofs.Laws.Lists.{all_drop}
use Rattle.chars.proofs.Laws.Case.{agree_lengths_differ}
use Rattle.chars.proofs.Laws.Write.{length_front, take-front, drop-front, wrote-front}
use Rattle.oraddr.specs.Bounds.{bound_of, dd_type, dd_value, is_space}
use Rattle.oraddr.specs.View.{clean_text, dd_view, domain_defined_of, held_text, text_of}

-- ---- over the room

-- a text in a room of zeros: the room's length, the text, and zeros past it
pub length_made : (s : List ℕ) (room : ℕ) → length s ≤ room → length (front s (replicate room 0)) ≡ room
length_made s room h = length_front s (replicate room 0) (simp length-replicate h) ∙ simp length-replicate

pub made : (s : List ℕ) (room : ℕ) → take (length s) (front s (replicate room 0)) ≡ s
made s room = take-front s (replicate room 0)

zeros : (n : ℕ) → all (λ x. eqb x 0) (replicate n 0) ≡ true
unfolding all
zeros zero = refl
zeros (suc n) = zeros n

pub made_clean : (n : ℕ) (s : List ℕ) → clean_text (text_of n s) ≡ true
unfolding clean_text text_of
made_clean n s = rw (drop-front s (replicate n 0)) (all_drop (λ x. eqb x 0) (length s) (replicate n 0) (zeros n))

-- what `put` writes into a room of zeros, and the length that it answers
pub length_of : {o s new : List ℕ} {n : ℕ} → Wrote o 0 s n new → n ≡ length s
length_of w = omega (arith, w.moved)

pub made_of : {s new : List ℕ} {n : ℕ} (room : ℕ) → length s ≤ room → Wrote (replicate room 0) 0 s n new → new ≡ front s (replicate room 0)
made_of room h w = wrote-front w (simp length-replicate h)

-- ---- one space

-- a text of one byte is one space where that byte is a space, and a text of another length is not
pub one_space : (s : List ℕ) → length s ≡ 1 → is_space s ≡ eqb (get_or s 0 0) 32
unfolding is_space equal_text agree
one_space [] h = absurd (omega arith)
one_space (x ∷ []) h = and-true (eqb x 32)
one_space (x ∷ y ∷ s) h = absurd (omega arith)

pub not_space : (s : List ℕ) → (length s ≡ 1 → ⊥) → is_space s ≡ false
unfolding is_space equal_text
not_space s h = agree_lengths_differ eqb s (32 ∷ []) h

-- ---- of the structs

pub view_text : (n : ℕ) (s : List ℕ) → held_text (text_of n s) ≡ s
unfolding text_of
view_text n s = made s n

pub view-dd : (t s : List ℕ) → dd_view (domain_defined_of t s) ≡ record { kind = t; value = s }
unfolding dd_view domain_defined_of
view-dd t s = rw (view_text (bound_of dd_type) t, view_text (bound_of dd_value) s)
