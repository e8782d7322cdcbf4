-- Laws of digits, and of the bytes that they spell, written to the front of a buffer.
-- Assumes nothing.
use mathlib.Core.Path.{◌≡◌, refl, sym, ◌∙◌}
use mathlib.Core.List.{List, [], ◌∷◌}
use Prim.Native.Nat.{ℕ, zero, suc, ◌+◌, ◌*◌, ◌≤◌, ◌<◌}
use native.Mathlib.Numerals.{add-one}
use native.Mathlib.Omega.{arith}
use lib.Dec.{eqb}
use lib.ListN.{get_or, length, take, drop, set, length-take, drop_of_length-le}
use lib.Seq.{sets, drop-cons, get_or-take}
use Rattle.chars.specs.Parts.{before, run}
use Rattle.chars.proofs.Laws.Lists.{by_test}
use Rattle.cases.specs.Lines.{lines}
use Rattle.cases.specs.Read.{Unhexed, hex_byte, hex_bytes}

-- the byte at a place of those that a text spells
hex_at : (s : List ℕ) (n : ℕ) → 2 * n + 1 < length s → (n < length (hex_bytes s)) × (get_or (hex_bytes s) n 0 ≡ hex_byte (get_or s (2 * n) 0) (get_or s (2 * n + 1) 0))
unfolding hex_bytes
hex_at [] n h = absurd (omega arith)
hex_at (a ∷ []) n h = absurd (omega arith)
hex_at (a ∷ b ∷ s) zero h = (omega arith, refl)
hex_at (a ∷ b ∷ s) (suc n) h =
    let i = hex_at s n (omega arith) in
    let e : 2 * suc n ≡ suc (suc (2 * n)) = omega arith in
    let f : 2 * suc n + 1 ≡ suc (suc (2 * n + 1)) = omega arith in
    (omega (arith, i.0), rw (f, e) i.1)

-- how many they are
hex_end : (s : List ℕ) (n : ℕ) → length s ≤ 2 * n + 1 → length (hex_bytes s) ≤ n
unfolding hex_bytes
hex_end [] n h = omega arith
hex_end (a ∷ []) n h = omega arith
hex_end (a ∷ b ∷ s) zero h = absurd (omega arith)
hex_end (a ∷ b ∷ s) (suc n) h = omega (arith, hex_end s n (omega arith))

-- as many of them as there is room for
module _ (room : ℕ) (s : List ℕ) where
  -- the next one is within the text and the room
  pub room-more : (n : ℕ) → n < room → 2 * n + 1 < length s → n < length (take room (hex_bytes s))
  room-more n h k = omega (arith, length-take room (hex_bytes s), (hex_at s n k).0)

  -- storing it leaves the others to store
  pub room_step : (l : List ℕ) (n : ℕ) → n < room → 2 * n + 1 < length s
      → sets l n (drop n (take room (hex_bytes s)))
      ≡ sets (set l n (hex_byte (get_or s (2 * n) 0) (get_or s (2 * n + 1) 0))) (n + 1) (drop (n + 1) (take room (hex_bytes s)))
  room_step l n h k =
      let m : n < length (take room (hex_bytes s)) = room-more n h k in
      rw (add-one n, drop-cons (take room (hex_bytes s)) n 0, get_or-take room (hex_bytes s) n 0 h, (hex_at s n k).1)

  -- there is none left where the room or the text is at its end
  pub no_room : (n : ℕ) → room ≤ n → length (take room (hex_bytes s)) ≤ n
  no_room n h = omega (arith, length-take room (hex_bytes s))

  pub no_more : (n : ℕ) → length s ≤ 2 * n + 1 → length (take room (hex_bytes s)) ≤ n
  no_more n h = omega (arith, length-take room (hex_bytes s), hex_end s n h)

pub unhexed : (old s new : List ℕ) (n : ℕ) → n ≤ length (take (length old) (hex_bytes s)) → length (take (length old) (hex_bytes s)) ≤ n
    → sets old 0 (take (length old) (hex_bytes s)) ≡ sets new n (drop n (take (length old) (hex_bytes s)))
    → Unhexed old s n new
unhexed old s new n l h e = record {
  wrote = record { moved = omega arith; holds = sym (e ∙ rw (drop_of_length-le (take (length old) (hex_bytes s)))) };
  fits = omega (arith, length-take (length old) (hex_bytes s));
}

-- one more byte in front of the first line
more_before : (x : ℕ) (s : List ℕ) (n : ℕ) → lines s ≡ take n s ∷ lines (drop (n + 1) s) → before x (lines s) ≡ take (suc n) (x ∷ s) ∷ lines (drop (suc n + 1) (x ∷ s))
unfolding before
more_before x s n e = rw (e, add-one (suc n), add-one n)

-- the first line of a text that has any, and the others
pub lines_step : (s : List ℕ) → 0 < length s → lines s ≡ take (run 10 s) s ∷ lines (drop (run 10 s + 1) s)
unfolding lines run before
lines_step [] h = absurd (omega arith)
lines_step (x ∷ []) h = by_test (eqb x 10) (λ e. rw e) (λ e. rw e)
lines_step (x ∷ y ∷ s) h =
    by_test (eqb x 10)
    (λ e. rw e)
    (λ e. rw e (more_before x (y ∷ s) (run 10 (y ∷ s)) (lines_step (y ∷ s) (omega arith))))

pub no_lines : (s : List ℕ) → length s ≡ 0 → lines s ≡ []
unfolding lines
no_lines [] h = refl
no_lines (x ∷ s) h = absurd (omega arith)
