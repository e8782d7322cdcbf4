-- A bare address of the accepted shape, in which no backslash is needless, is written as it was read.
-- Assumes nothing.
use mathlib.Core.Path.{◌≡◌, refl, sym, ap, ◌∙◌}
use mathlib.Core.Bool.{Bool, true, false, ◌||◌, not}
use mathlib.Core.List.{List, [], ◌∷◌, ◌++◌, append_assoc, append-nil}
use mathlib.Core.Option.{some}
use Rattle.std.proofs.Common.{Some}
use Prim.Native.Nat.{ℕ, suc}
use native.Mathlib.Omega.{arith}
use lib.Dec.{eqb}
use lib.ListN.{length, take}
use lib.Seq.{take-append_seam}
use borrow.Author.Tests.{eqb-true, not-true}
use Rattle.chars.specs.Class.{between, is_atom_char}
use Rattle.chars.specs.Lists.{all, member}
use Rattle.chars.specs.Parts.{is_atoms}
use Rattle.chars.proofs.Laws.Lists.{all_weaken, and_left, and_right, by_test, neither, true_not_false}
use Rattle.chars.proofs.Laws.Parts.{parted-all}
use Rattle.mailaddr.specs.Shape.{Address, closing, escaped, inner, is_text, shape_of, unescaped, unquoted_local}
use Rattle.mailaddr.proofs.Laws.Closing.{closes, unescaped-plain}
use Rattle.mailaddr.proofs.Laws.Shape.{IsLocal, Quoted, shape-domain, shape-local, shape-text}
use Rattle.mailbox.specs.Mailbox.{bare_text, empty_start, local_text}
use Rattle.mailbox.specs.Needless.{no_needless}
use Rattle.lexical.proofs.Laws.Closing.{by-closing}
use Rattle.mailbox.proofs.Laws.Address.{inner-before}

needless_plain : (x : ℕ) (s : List ℕ) → eqb x 92 ≡ false → no_needless (x ∷ s) ≡ no_needless s
unfolding no_needless
needless_plain x [] e = rw e
needless_plain x (y ∷ s) e = rw e

-- A quoted string of n bytes behind its opening quote, of which `before` stand before its closing one: where no backslash is needless, escaping
-- gives back what unescaping took.
record SameQuoted (t : List ℕ) (n : ℕ) : Type 0 where
  before : ℕ
  size : n ≡ suc before
  same : no_needless t ≡ true → escaped (unescaped (take before t)) ++ (34 ∷ []) ≡ take n t

same_close : (s : List ℕ) → SameQuoted (34 ∷ s) 1
unfolding unescaped escaped
same_close s = record { before = 0; size = refl; same = λ h. refl }

same_escape : (y : ℕ) (s : List ℕ) (n : ℕ) → is_text y ≡ true → SameQuoted s n → SameQuoted (92 ∷ y ∷ s) (suc (suc n))
unfolding unescaped escaped no_needless
same_escape y s n f k =
    record {
      before = suc (suc k.before);
      size = omega (arith, k.size);
      same = λ h. rw (and_left (eqb y 34 || eqb y 92) (no_needless s) h, k.same (and_right (eqb y 34 || eqb y 92) (no_needless s) h));
    }

same_text_lem : (x : ℕ) (s : List ℕ) (n : ℕ) → eqb x 34 ≡ false → eqb x 92 ≡ false → is_text x ≡ true → SameQuoted s n → SameQuoted (x ∷ s) (suc n)
unfolding escaped
same_text_lem x s n e f g k =
    record {
      before = suc k.before;
      size = omega (arith, k.size);
      same = λ h. rw (unescaped-plain x (take k.before s) f, e, f, k.same (sym (needless_plain x s f) ∙ h));
    }

same-closing : (t : List ℕ) (n : ℕ) → closing t ≡ Some n → SameQuoted t n
same-closing = by-closing SameQuoted same_close same_escape same_text_lem

same-quoted : (l r : List ℕ) → Quoted l → no_needless (l ++ r) ≡ true → 34 ∷ escaped (unescaped (inner l)) ++ (34 ∷ []) ≡ l
same-quoted l r k h =
    let t = k.inside in
    let q = same-closing (t ++ r) (length t) ((closes t (length t) k.shut).longer r) in
    let g : no_needless (34 ∷ t ++ r) ≡ true = rw k.opened at h in
    rw (k.opened, inner-before t r q.before q.size, q.same (sym (needless_plain 34 (t ++ r) refl) ∙ g), take-append_seam t r)

same-local : (q : Bool) (l d : List ℕ) → IsLocal q l → no_needless (l ++ 64 ∷ d) ≡ true
    → local_text q (unquoted_local (record { local = l; is_quoted = q; domain = d })) ≡ l
unfolding IsLocal local_text unquoted_local
same-local true l d k h = same-quoted l (64 ∷ d) k h
same-local false l d k h = refl

-- and to the byte where no backslash in it is needless
pub address_same : (s : List ℕ) (a : Address) → shape_of s ≡ some a → no_needless s ≡ true
    → bare_text (record { local = unquoted_local a; is_quoted = a.is_quoted; domain = a.domain; phrase = empty_start }) ≡ s
unfolding bare_text
address_same s a h k =
    let t = shape-text s a h in
    ap (λ (l : List ℕ). l ++ 64 ∷ a.domain) (same-local a.is_quoted a.local a.domain (shape-local s a h) (rw t at k)) ∙ sym t

-- ---- and only there: no backslash of what is written is needless

needless_all : (s r : List ℕ) → all (λ x. not (eqb x 92)) s ≡ true → no_needless (s ++ r) ≡ no_needless r
unfolding all
needless_all [] r h = refl
needless_all (x ∷ s) r h =
    needless_plain x (s ++ r) (not-true (eqb x 92) (and_left (not (eqb x 92)) (all (λ x. not (eqb x 92)) s) h))
    ∙ needless_all s r (and_right (not (eqb x 92)) (all (λ x. not (eqb x 92)) s) h)

needless_escaped : (s r : List ℕ) → no_needless (escaped s ++ r) ≡ no_needless r
unfolding escaped no_needless
needless_escaped [] r = refl
needless_escaped (x ∷ s) r =
    by_test (eqb x 34 || eqb x 92)
    (λ e. rw (e, needless_escaped s r, e))
    (λ e. rw e (needless_plain x (escaped s ++ r) (neither (eqb x 34) (eqb x 92) e).1 ∙ needless_escaped s r))

-- no byte of atoms is a backslash
atom_plain : (x : ℕ) → (eqb x 46 || is_atom_char x) ≡ true → not (eqb x 92) ≡ true
unfolding is_atom_char between member
atom_plain x h =
    by_test (eqb x 92)
    (λ e. let z : x ≡ 92 = eqb-true x 92 e in true_not_false true refl (sym (rw z at h)))
    (λ e. rw e)

needless_atoms : (s r : List ℕ) → is_atoms s ≡ true → no_needless (s ++ r) ≡ no_needless r
unfolding is_atoms
needless_atoms s r h = needless_all s r (all_weaken (λ x. eqb x 46 || is_atom_char x) (λ x. not (eqb x 92)) atom_plain s (parted-all 46 is_atom_char s h))

written_needless : (q : Bool) (l d : List ℕ) → IsLocal q l → is_atoms d ≡ true
    → no_needless (local_text q (unquoted_local (record { local = l; is_quoted = q; domain = d })) ++ 64 ∷ d) ≡ no_needless (d ++ [])
unfolding IsLocal local_text unquoted_local
written_needless true l d k h =
    let u : List ℕ = unescaped (inner l) in
    ap (λ (t : List ℕ). no_needless (34 ∷ t)) (append_assoc (escaped u) (34 ∷ []) (64 ∷ d))
    ∙ needless_plain 34 (escaped u ++ 34 ∷ 64 ∷ d) refl
    ∙ needless_escaped u (34 ∷ 64 ∷ d)
    ∙ needless_plain 34 (64 ∷ d) refl
    ∙ needless_plain 64 d refl
    ∙ ap no_needless (sym (append-nil d))
written_needless false l d k h =
    needless_atoms l (64 ∷ d) k ∙ needless_plain 64 d refl ∙ ap no_needless (sym (append-nil d))

pub address_needless : (s : List ℕ) (a : Address) → shape_of s ≡ some a
    → bare_text (record { local = unquoted_local a; is_quoted = a.is_quoted; domain = a.domain; phrase = empty_start }) ≡ s → no_needless s ≡ true
unfolding bare_text no_needless
address_needless s a h e =
    ap no_needless (sym e)
    ∙ written_needless a.is_quoted a.local a.domain (shape-local s a h) (shape-domain s a h)
    ∙ needless_atoms a.domain [] (shape-domain s a h)
