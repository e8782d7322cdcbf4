-- Laws of words joined by dots: what they mean together, and how many bytes that takes when it is written again.
-- Assumes nothing.
use mathlib.Core.Path.{◌≡◌, refl, sym, ◌∙◌}
use mathlib.Core.Bool.{Bool, true, false, ◌||◌, cond}
use mathlib.Core.List.{List, [], ◌∷◌, ◌++◌, map}
use Prim.Native.Nat.{ℕ, suc, ◌+◌, ◌≤◌, ◌<◌}
use native.Mathlib.Omega.{arith}
use borrow.Author.Tests.{le-leb}
use lib.ListN.{length, length-append}
use Rattle.chars.specs.Class.{between, is_atom_char}
use Rattle.chars.specs.Lists.{all, bytes, member, non_empty}
use Rattle.chars.specs.Parts.{is_atoms, is_part, join}
use Rattle.chars.proofs.Laws.Class.{atom_range}
use Rattle.chars.proofs.Laws.Lists.{all_append, all_weaken, and_both, and_right, neither, true_not_false}
use Rattle.chars.proofs.Laws.Parts.{parted-join}
use Rattle.mailaddr.specs.Shape.{escaped, is_text}
use Rattle.mailaddr.proofs.Laws.Closing.{escaped-append}
use Rattle.lexical.specs.Tokens.{Word}
use Rattle.mailbox_address.specs.Grammar.{any_quoted, meaning_of}
use Rattle.lexical.proofs.Laws.Line.{Means, word_bytes}

-- each means what it may
unfoldable pub EachMeans : List Word → Type 0
unfolding Means
EachMeans [] = Unit
EachMeans (w ∷ ws) = Means w.is_quoted w.meaning × EachMeans ws

-- ---- what they mean

atom_text : (x : ℕ) → is_atom_char x ≡ true → is_text x ≡ true
unfolding is_text between
atom_text x h = let r = atom_range x h in and_both (le-leb 32 x (omega arith)) (le-leb x 126 r.1)

means_text : (q : Bool) (l : List ℕ) → Means q l → all is_text l ≡ true
unfolding Means is_part
means_text true l h = h
means_text false l h = all_weaken is_atom_char is_text atom_text l (and_right (non_empty l) (all is_atom_char l) h)

-- bytes 32 to 126
pub words-text : (ws : List Word) → EachMeans ws → all is_text (meaning_of ws) ≡ true
unfolding EachMeans meaning_of join all is_text between
words-text [] h = refl
words-text (w ∷ []) h = means_text w.is_quoted w.meaning h.0
words-text (w ∷ v ∷ ws) h =
    all_append is_text w.meaning (46 ∷ meaning_of (v ∷ ws))
    ∙ and_both (means_text w.is_quoted w.meaning h.0) (words-text (v ∷ ws) h.1)

-- atoms joined by dots, where none is quoted
unquoted-part : (q : Bool) (l : List ℕ) → q ≡ false → Means q l → is_part is_atom_char l ≡ true
unfolding Means
unquoted-part true l e h = true_not_false true refl e
unquoted-part false l e h = h

unquoted-parts : (ws : List Word) → EachMeans ws → any_quoted ws ≡ false → all (is_part is_atom_char) (map (λ (w : Word). w.meaning) ws) ≡ true
unfolding EachMeans any_quoted all
unquoted-parts [] h e = refl
unquoted-parts (w ∷ ws) h e =
    let f = neither w.is_quoted (any_quoted ws) e in
    and_both (unquoted-part w.is_quoted w.meaning f.0 h.0) (unquoted-parts ws h.1 f.1)

pub words-atoms : (ws : List Word) → non_empty ws ≡ true → EachMeans ws → any_quoted ws ≡ false → is_atoms (meaning_of ws) ≡ true
unfolding meaning_of is_atoms non_empty is_atom_char between bytes member
words-atoms [] s h e = true_not_false true refl (sym s)
words-atoms (w ∷ ws) s h e =
    parted-join 46 is_atom_char refl w.meaning (map (λ (w : Word). w.meaning) ws) (unquoted-parts (w ∷ ws) h e)

-- ---- how many bytes that takes

-- those of each word, and one for a dot behind it
unfoldable pub dotted_bytes : List Word → ℕ
dotted_bytes [] = 0
dotted_bytes (w ∷ ws) = suc (word_bytes w + dotted_bytes ws)

escaped_dot : (s t : List ℕ) → length (escaped (s ++ 46 ∷ t)) ≡ suc (length (escaped s) + length (escaped t))
unfolding escaped
escaped_dot s t = rw (escaped-append s (46 ∷ t)) (omega (arith, length-append (escaped s) (46 ∷ escaped t)))

or-two : (a b : Bool) → cond (a || b) 2 0 ≤ cond a 2 0 + cond b 2 0
or-two true b = omega arith
or-two false b = omega arith

pub words-bytes : (ws : List Word) → non_empty ws ≡ true → length (escaped (meaning_of ws)) + cond (any_quoted ws) 2 0 < dotted_bytes ws
unfolding meaning_of any_quoted dotted_bytes word_bytes join non_empty
words-bytes [] h = true_not_false true refl (sym h)
words-bytes (w ∷ []) h = omega (arith, or-two w.is_quoted false)
words-bytes (w ∷ v ∷ ws) h =
    omega (arith, or-two w.is_quoted (any_quoted (v ∷ ws)), words-bytes (v ∷ ws) refl, escaped_dot w.meaning (meaning_of (v ∷ ws)))
