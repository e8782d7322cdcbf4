-- What is coded is made of the grammar's characters alone; and it is atoms joined by dots exactly when the text is not empty, has no `@`,
-- and its dots are single and inner.
-- Assumes nothing.
use mathlib.Core.Path.{◌≡◌, refl, ap, ◌∙◌}
use Prim.Native.Nat.{ℕ}
use mathlib.Core.Bool.{Bool, true, false, not, ◌&&◌, ◌||◌}
use mathlib.Core.List.{List, [], ◌∷◌}
use borrow.Author.Tests.{eqb-true}
use lib.Dec.{eqb}
use Rattle.chars.specs.Class.{between, is_atom_char, is_char}
use Rattle.chars.specs.Lists.{all, bytes, first, last, member, non_empty}
use Rattle.chars.specs.Parts.{is_atoms, side_by_side}
use Rattle.chars.proofs.Laws.Class.{at_char, at_char_but}
use Rattle.chars.proofs.Laws.Lists.{all_append, all_ext, all_no_member, and_both, and_left, and_right, by_test}
use Rattle.chars.proofs.Laws.Parts.{clear, from-append, from-whole, parted-from, parted_from}
use Rattle.restricted.specs.Atoms.{dots_single_inner, is_coded_atoms, is_coded_char}
use Rattle.restricted.specs.Code.{code_char, coded, is_control, is_plain, letter_in, letter_of, numbered, short}

-- ---- the characters of what is coded

char_coded : (b : ℕ) → is_char b ≡ true → all is_coded_char (code_char b) ≡ true
unfolding all is_coded_char code_char numbered is_plain is_char is_control letter_of letter_in short bytes member
char_coded = at_char (λ b. all is_coded_char (code_char b)) (λ b. true) tt

pub coded-plain : (s : List ℕ) → all is_char s ≡ true → all is_coded_char (coded s) ≡ true
unfolding all coded
coded-plain [] h = refl
coded-plain (b ∷ s) h =
    rw (all_append is_coded_char (code_char b) (coded s))
    (and_both (char_coded b (and_left (is_char b) (all is_char s) h)) (coded-plain s (and_right (is_char b) (all is_char s) h)))

-- ---- atoms

-- a character other than a dot is coded with no dot, and by atom characters unless it is `@`
char_clear : (b : ℕ) → is_char b ≡ true → eqb b 46 ≡ false → non_empty (code_char b) && clear 46 (code_char b) ≡ true
unfolding all non_empty code_char numbered is_plain is_char is_control letter_of letter_in short bytes member
char_clear = at_char_but (λ b. eqb b 46) (λ b. non_empty (code_char b) && clear 46 (code_char b)) (λ b. true) tt

char_atoms : (b : ℕ) → is_char b ≡ true → eqb b 46 ≡ false → all is_atom_char (code_char b) ≡ not (eqb 64 b)
unfolding all is_atom_char between code_char numbered is_plain is_char is_control letter_of letter_in short bytes member
char_atoms = at_char_but (λ b. eqb b 46) (λ b. all is_atom_char (code_char b)) (λ b. not (eqb 64 b)) tt

dot_coded : code_char 46 ≡ 46 ∷ []
unfolding code_char is_plain is_char is_control bytes member
dot_coded = refl

dot_is : (b : ℕ) → eqb b 46 ≡ true → code_char b ≡ 46 ∷ []
dot_is b e = ap code_char (eqb-true b 46 e) ∙ dot_coded

-- no `@`
abbrev other : ℕ → Bool
other b = not (eqb 64 b)

coded-from : (o : Bool) (s : List ℕ) → all is_char s ≡ true → parted_from 46 is_atom_char o (coded s) ≡ parted_from 46 other o s
unfolding parted_from coded all
coded-from o [] h = refl
coded-from o (b ∷ s) h =
    let c = and_left (is_char b) (all is_char s) h in
    let r = and_right (is_char b) (all is_char s) h in
    by_test (eqb b 46)
    (λ e. rw (dot_is b e, e, coded-from true s r))
    (λ e. from-append 46 is_atom_char o (code_char b) (coded s) (char_clear b c e) ∙ rw (char_atoms b c e, e, coded-from false s r))

-- ---- dots

-- where a dot is no `@`
no_at : (s : List ℕ) → all (λ x. eqb x 46 || other x) s ≡ not (member 64 s)
no_at s = all_ext (λ x. eqb x 46 || other x) other dot_other s ∙ all_no_member 64 s
  where
    dot_other : (x : ℕ) → (eqb x 46 || other x) ≡ other x
    dot_other x = by_test (eqb x 46) (λ e. rw (eqb-true x 46 e)) (λ e. rw e)

-- the conditions in the ruling's order
in_order : (n f a d l : Bool) → n && (not f && (a && d && l)) ≡ n && a && (d && not f && l)
in_order true true true true l = refl
in_order true true true false l = refl
in_order true true false d l = refl
in_order true false true true l = refl
in_order true false true false l = refl
in_order true false false d l = refl
in_order false f a d l = refl

pub coded-atoms : (s : List ℕ) → all is_char s ≡ true → is_atoms (coded s) ≡ is_coded_atoms s
unfolding is_atoms is_coded_atoms dots_single_inner
coded-atoms s h =
    parted-from 46 is_atom_char (coded s)
    ∙ coded-from true s h
    ∙ from-whole 46 other refl s
    ∙ rw (no_at s)
    (in_order (non_empty s) (eqb (first s) 46) (not (member 64 s)) (not (side_by_side 46 s)) (not (eqb (last s) 46)))
