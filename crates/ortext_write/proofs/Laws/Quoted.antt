-- Laws of quoted text: what it reads as, its stops marked.
-- Assumes nothing.
use mathlib.Core.Path.{◌≡◌, refl, sym, ap}
use mathlib.Core.Bool.{true, false, cond}
use mathlib.Core.List.{List, [], ◌∷◌, ◌++◌}
use Prim.Native.Nat.{ℕ, ◌+◌}
use native.Mathlib.Omega.{arith}
use borrow.Author.Tests.{lt-ltb, ne_eqb}
use lib.Dec.{eqb}
use Rattle.chars.specs.Lists.{all, bytes, member}
use Rattle.chars.specs.Class.{between, is_digit, is_letter, is_printable}
use Rattle.chars.proofs.Laws.Lists.{and_left, and_right, by_test, true_not_false}
use Rattle.chars.proofs.Laws.Class.{printable_below}
use Rattle.ortext_segments.specs.Segments.{mark, plain_text, symbols}
use Rattle.ortext_write.specs.Write.{quoted}
use Rattle.ortext_segments.proofs.Laws.Segments.{is_stop, plain_byte, plain-quoted, prepend, prepend_nil, prepend_prepend, quoted-free, stopless, stopless_append, stopless_one, symbols-plain, symbols-quoted}

-- what a text is with its stops marked
unfoldable pub marked_text : List ℕ → List ℕ
marked_text [] = []
marked_text (x ∷ v) = cond (is_stop x) ((x + mark) ∷ marked_text v) (x ∷ marked_text v)

-- `$` is no printable string character
printable_plain : (x : ℕ) → is_printable x ≡ true → eqb x 36 ≡ false
unfolding is_printable bytes member is_letter is_digit between
printable_plain x h = ne_eqb x 36 (λ r. true_not_false (is_printable x) h (ap is_printable r))

-- quoted text reads as what was quoted, its stops marked
pub quoted-reads : (v s : List ℕ) → all is_printable v ≡ true → symbols (quoted v ++ s) ≡ prepend (marked_text v) (symbols s)
unfolding quoted marked_text all
quoted-reads [] s h = sym (prepend_nil (symbols s))
quoted-reads (x ∷ v) s h =
    let p = and_left (is_printable x) (all is_printable v) h in
    let r = quoted-reads v s (and_right (is_printable x) (all is_printable v) h) in
    by_test (is_stop x)
    (λ e. rw (e, symbols-quoted 36 x (quoted v ++ s) refl p, r) (prepend_prepend ((x + mark) ∷ []) (marked_text v) (symbols s)))
    (λ e. rw (e, symbols-plain x (quoted v ++ s) (printable_plain x p), r) (prepend_prepend (x ∷ []) (marked_text v) (symbols s)))

pub marked_stopless : (v : List ℕ) → stopless (marked_text v) ≡ true
unfolding marked_text all
marked_stopless [] = refl
marked_stopless (x ∷ v) =
    by_test (is_stop x)
    (λ e. rw e (stopless_append ((x + mark) ∷ []) (marked_text v) (stopless_one (x + mark) (quoted-free x)) (marked_stopless v)))
    (λ e. rw e (stopless_append (x ∷ []) (marked_text v) (stopless_one x e) (marked_stopless v)))

pub marked-plain : (v : List ℕ) → all is_printable v ≡ true → plain_text (marked_text v) ≡ v
unfolding marked_text plain_text all
marked-plain [] h = refl
marked-plain (x ∷ v) h =
    let p = printable_below x (and_left (is_printable x) (all is_printable v) h) in
    let r = marked-plain v (and_right (is_printable x) (all is_printable v) h) in
    by_test (is_stop x)
    (λ e. rw (e, plain-quoted x, r))
    (λ e. rw (e, plain_byte x (lt-ltb x mark (omega arith)), r))
