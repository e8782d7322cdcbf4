-- Laws of the entry points: what each answer of the code comes to, and that one call undoes the other.
-- Assumes nothing.
use mathlib.Core.Path.{◌≡◌, sym, ap, ◌∙◌}
use Prim.Native.Nat.{ℕ, ◌≤◌, ◌<◌}
use mathlib.Core.Bool.{true, false, ◌||◌}
use mathlib.Core.List.{List}
use native.Mathlib.Omega.{arith}
use borrow.Author.Tests.{eqb-true, le-ltb, lt-ltb, ltb-false}
use lib.Dec.{eqb, ltb}
use lib.ListN.{length, take}
use Rattle.chars.specs.Class.{is_char}
use Rattle.chars.specs.Lists.{all}
use Rattle.chars.specs.Write.{Wrote, front, placed_buffer, placed_size, placed_text, refused_text}
use Rattle.chars.proofs.Laws.Class.{is_char_lem}
use Rattle.chars.proofs.Laws.Lists.{all_weaken, by_test, or_cases}
use Rattle.chars.proofs.Laws.Write.{take-front, wrote-front}
use Rattle.restricted.specs.Answers.{Measured, coded_answer, short_answer, told}
use Rattle.restricted.specs.Atoms.{is_coded_char}
use Rattle.restricted.specs.Code.{coded, decoded, is_plain}
use Rattle.restricted.specs.Convert.{restrict_text, unrestrict_text}
use Rattle.restricted.specs.declared.convert.RestrictedFault.{RestrictedFault}
use Rattle.restricted.specs.declared.convert.RestrictedFault.TheVariants.{ByteOver127, ShortBuffer}
use Rattle.std.specs.Prelude.{Option, Result, Ok, Err, IsErrAnd, ok_or}
use Rattle.restricted.proofs.Laws.Atoms.{coded-plain}
use Rattle.restricted.proofs.Laws.Back.{decoded-coded}
use Rattle.restricted.proofs.Laws.Parse.{plain_char}

-- ---- a text that is placed

pub told-done : {old new t : List ℕ} {n : ℕ} → Wrote old 0 t n new → length t ≤ length old → told (Ok n) new ≡ placed_text t old
unfolding placed_text
told-done {old} {new} {t} {n} w h =
    let e : n ≡ length t = omega (arith, w.moved) in
    let f : new ≡ front t old = wrote-front w h in
    rw (e, f, le-ltb (length old) (length t) h)

pub told-short : (t old : List ℕ) → length old < length t → told (Err ShortBuffer) old ≡ placed_text t old
unfolding placed_text refused_text
told-short t old h = rw (lt-ltb (length old) (length t) h)

pub told-placed : (t old new : List ℕ) (r : Option ℕ) → r ≡ placed_size t old → new ≡ placed_buffer t old → told (ok_or r ShortBuffer) new ≡ placed_text t old
unfolding placed_size placed_buffer placed_text refused_text
told-placed t old new r g h = rw (g, h) (by_test (ltb (length old) (length t)) (λ k. rw k) (λ k. rw k))

-- a refusal that `?` hands on
pub told-err : (r : Result ℕ RestrictedFault) (e : RestrictedFault) (old : List ℕ) → IsErrAnd r (λ x. x ≡ e) → told r old ≡ told (Err e) old
told-err (Err x) e old h = ap (λ y. told (Err y) old) h
told-err (Ok n) e old h = absurd h

-- ---- a text that is coded

-- a text that may be coded fits
pub done-fits : (s : List ℕ) (room : ℕ) → Ok tt ≡ coded_answer s room → (all is_char s ≡ true) × (length (coded s) ≤ room)
unfolding coded_answer
done-fits s room h =
    by_test (ltb room (length (coded s)))
    (λ k. let z : ◌≡◌ {A = Result (Unit {0}) RestrictedFault} (Ok tt) (Err (short_answer s)) = rw k at h in absurd (cc))
    (λ k. by_test (all is_char s)
    (λ e. (e, ltb-false room (length (coded s)) k))
    (λ e. let z : ◌≡◌ {A = Result (Unit {0}) RestrictedFault} (Ok tt) (Err ByteOver127) = rw (k, e) at h in absurd (cc)))

pub restrict-done : (s old : List ℕ) → all is_char s ≡ true → restrict_text s old ≡ placed_text (coded s) old
unfolding restrict_text
restrict-done s old e = rw e

-- a text that may not be coded
pub restrict-refused : (s old : List ℕ) (e : RestrictedFault) → Err e ≡ coded_answer s (length old) → told (Err e) old ≡ restrict_text s old
unfolding restrict_text coded_answer short_answer placed_text refused_text
restrict-refused s old e h =
    by_test (all is_char s)
    (λ a. by_test (ltb (length old) (length (coded s)))
    (λ k. let z : ◌≡◌ {A = Result (Unit {0}) RestrictedFault} (Err e) (Err ShortBuffer) = rw (k, a) at h in let q : e ≡ ShortBuffer = cc in rw (a, k, q))
    (λ k. let z : ◌≡◌ {A = Result (Unit {0}) RestrictedFault} (Err e) (Ok tt) = rw (k, a) at h in absurd (cc)))
    (λ a. by_test (ltb (length old) (length (coded s)))
    (λ k. let z : ◌≡◌ {A = Result (Unit {0}) RestrictedFault} (Err e) (Err ByteOver127) = rw (k, a) at h in let q : e ≡ ByteOver127 = cc in rw (a, q))
    (λ k. let z : ◌≡◌ {A = Result (Unit {0}) RestrictedFault} (Err e) (Err ByteOver127) = rw (k, a) at h in let q : e ≡ ByteOver127 = cc in rw (a, q)))

-- ---- a text that is read back

pub unrestrict-chars : (s old : List ℕ) → all is_char s ≡ true → unrestrict_text s old ≡ placed_text (decoded s) old
unfolding unrestrict_text
unrestrict-chars s old e = rw e

pub unrestrict-high : (s old : List ℕ) → all is_char s ≡ false → unrestrict_text s old ≡ refused_text 1 old
unfolding unrestrict_text
unrestrict-high s old e = rw e

pub unrestrict-refused : (s old : List ℕ) (e : RestrictedFault) → Measured s (Err e) → told (Err e) old ≡ unrestrict_text s old
unfolding refused_text
unrestrict-refused s old e h = rw h.0 (sym (unrestrict-high s old h.1))

-- ---- what was coded is read back

coded_char_lem : (b : ℕ) → is_coded_char b ≡ true → is_char b ≡ true
unfolding is_coded_char
coded_char_lem b h =
    or_cases (is_plain b || eqb b 95) (eqb b 35) h
    (λ k. or_cases (is_plain b) (eqb b 95) k (plain_char b) (λ e. is_char_lem b (omega (arith, eqb-true b 95 e))))
    (λ e. is_char_lem b (omega (arith, eqb-true b 35 e)))

coded-chars : (s : List ℕ) → all is_char s ≡ true → all is_char (coded s) ≡ true
coded-chars s h = all_weaken is_coded_char is_char coded_char_lem (coded s) (coded-plain s h)

read_back : (s new : List ℕ) → all is_char s ≡ true → unrestrict_text (coded s) new ≡ placed_text s new
read_back s new h = unrestrict-chars (coded s) new (coded-chars s h) ∙ ap (λ (t : List ℕ). placed_text t new) (decoded-coded s h)

-- the text that a call wrote, given to the other
pub calls_back : (s old new : List ℕ) → (restrict_text s old).number ≡ 0
    → unrestrict_text (take (restrict_text s old).size (restrict_text s old).buffer) new ≡ placed_text s new
unfolding restrict_text placed_text refused_text
calls_back s old new h =
    by_test (all is_char s)
    (λ e. by_test (ltb (length old) (length (coded s)))
    (λ k. absurd (omega (arith, rw (e, k) at h)))
    (λ k. rw (e, k, take-front (coded s) old) (read_back s new e)))
    (λ e. absurd (omega (arith, rw e at h)))
