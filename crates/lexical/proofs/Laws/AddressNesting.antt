-- Laws of how deep comments nest: atoms open none, and quoted strings hide what they hold, so an address of the accepted shape nests none.
-- Assumes nothing.
use mathlib.Core.Path.{◌≡◌, refl, ap, ◌∙◌}
use mathlib.Core.Bool.{Bool, true, false, not, ◌&&◌, ◌||◌}
use mathlib.Core.List.{List, [], ◌∷◌, ◌++◌, append-nil}
use mathlib.Core.Option.{some}
use Rattle.std.proofs.Common.{Some}
use Prim.Native.Nat.{ℕ}
use native.Mathlib.Nat.{zero-max}
use borrow.Author.Tests.{eqb-true, ne_eqb, not-true}
use lib.Dec.{eqb}
use lib.ListN.{length, drop}
use lib.Seq.{drop-append_seam}
use Rattle.chars.specs.Class.{between, is_atom_char}
use Rattle.chars.specs.Lists.{all, bytes, member}
use Rattle.chars.specs.Parts.{is_atoms}
use Rattle.chars.proofs.Laws.Lists.{all_weaken, and_left, and_right, or_cases, true_not_false}
use Rattle.chars.proofs.Laws.Parts.{parted-all}
use Rattle.mailaddr.specs.Shape.{Address, closing, shape_of}
use Rattle.mailaddr.proofs.Laws.Closing.{closes}
use Rattle.mailaddr.proofs.Laws.Shape.{IsLocal, Quoted, shape-domain, shape-local, shape-text}
use Rattle.lexical.specs.Nesting.{deepest, nest_of, nest_outside, nest_quoted, nests_too_deep}
use Rattle.lexical.proofs.Laws.Closing.{by-closing}

-- ---- atoms

-- a byte that opens neither a comment nor a quoted string
abbrev opens_none : ℕ → Bool
opens_none x = not (eqb x 40) && not (eqb x 34)

deepest-plain : (w r : List ℕ) → all opens_none w ≡ true → deepest 0 false 0 (w ++ r) ≡ deepest 0 false 0 r
unfolding deepest nest_of nest_outside all
deepest-plain [] r h = refl
deepest-plain (x ∷ w) r h =
    let k = and_left (opens_none x) (all opens_none w) h in
    rw (
      not-true (eqb x 40) (and_left (not (eqb x 40)) (not (eqb x 34)) k),
      not-true (eqb x 34) (and_right (not (eqb x 40)) (not (eqb x 34)) k),
      zero-max (deepest 0 false 0 (w ++ r)),
    )
    (deepest-plain w r (and_right (opens_none x) (all opens_none w) h))

atom_opens : (x : ℕ) → (eqb x 46 || is_atom_char x) ≡ true → opens_none x ≡ true
unfolding is_atom_char between bytes member
atom_opens x h =
    or_cases (eqb x 46) (is_atom_char x) h
    (λ e. rw (eqb-true x 46 e))
    (λ e. rw (
      ne_eqb x 40 (λ r. true_not_false (is_atom_char x) e (ap is_atom_char r)),
      ne_eqb x 34 (λ r. true_not_false (is_atom_char x) e (ap is_atom_char r)),
    ))

pub deepest-atoms : (w r : List ℕ) → is_atoms w ≡ true → deepest 0 false 0 (w ++ r) ≡ deepest 0 false 0 r
unfolding is_atoms
deepest-atoms w r h = deepest-plain w r (all_weaken (λ x. eqb x 46 || is_atom_char x) opens_none atom_opens w (parted-all 46 is_atom_char w h))

-- ---- quoted strings

deepest-closing : (t : List ℕ) (n : ℕ) → closing t ≡ Some n → deepest 0 true 0 t ≡ deepest 0 false 0 (drop n t)
unfolding deepest nest_of nest_quoted
deepest-closing =
    by-closing (λ t n. deepest 0 true 0 t ≡ deepest 0 false 0 (drop n t))
    (λ s. zero-max (deepest 0 false 0 s))
    (λ y s n f k. zero-max (deepest 0 true 0 s) ∙ k)
    (λ x s n e f g k. rw (f, e, zero-max (deepest 0 true 0 s)) k)

pub deepest-quoted : (l r : List ℕ) → Quoted l → deepest 0 false 0 (l ++ r) ≡ deepest 0 false 0 r
unfolding deepest nest_of nest_outside
deepest-quoted l r k =
    let t = k.inside in
    rw (k.opened, zero-max (deepest 0 true 0 (t ++ r)), deepest-closing (t ++ r) (length t) ((closes t (length t) k.shut).longer r), drop-append_seam t r)

-- ---- an address of the accepted shape

deepest-local : (q : Bool) (l r : List ℕ) → IsLocal q l → deepest 0 false 0 (l ++ r) ≡ deepest 0 false 0 r
unfolding IsLocal
deepest-local true l r k = deepest-quoted l r k
deepest-local false l r k = deepest-atoms l r k

pub address_shallow : (s : List ℕ) (a : Address) → shape_of s ≡ some a → nests_too_deep s ≡ false
unfolding nests_too_deep deepest all
address_shallow s a h = rw none_open
  where
    domain-none : deepest 0 false 0 a.domain ≡ 0
    domain-none = rw (append-nil a.domain) at (deepest-atoms a.domain [] (shape-domain s a h))

    none_open : deepest 0 false 0 s ≡ 0
    none_open =
        ap (deepest 0 false 0) (shape-text s a h)
        ∙ deepest-local a.is_quoted a.local (64 ∷ a.domain) (shape-local s a h)
        ∙ deepest-plain (64 ∷ []) a.domain refl
        ∙ domain-none
