-- Laws of the accepted shape: an address is its local part, `@` and its domain, in one way, and which bytes it has; and of
-- quoting, which the shape reads back.
-- Assumes nothing.
use mathlib.Core.Path.{◌≡◌, refl, sym, ap, ◌∙◌}
use mathlib.Core.Bool.{Bool, true, false, not, ◌&&◌, ◌||◌, cond}
use mathlib.Core.List.{List, [], ◌∷◌, ◌++◌}
use mathlib.Core.Option.{none, some}
use Rattle.std.proofs.Common.{Option, None, Some}
use Prim.Native.Nat.{ℕ, suc, ◌+◌, ◌-◌, ◌*◌, ◌≤◌, ◌<◌}
use native.Mathlib.Nat.{zero-add}
use native.Mathlib.Numerals.{add-one}
use native.Mathlib.Omega.{arith}
use borrow.Author.Tests.{eq-eqb, eqb-true, le-leb, le-ltb, ne_eqb}
use lib.Dec.{eqb}
use lib.ListN.{length, take, drop, get_or, length-append}
use lib.Seq.{drop-append-add, get_or-append_seam, length-take-le, split_at, take-append_seam, take_at, take-length}
use Rattle.chars.specs.Lists.{all, bytes, first, last, member, non_empty}
use Rattle.chars.specs.Class.{between, is_atom_char, is_digit, is_letter, is_printable, is_quotable}
use Rattle.chars.specs.Parts.{is_atoms, is_parted, run}
use Rattle.chars.specs.Spaces.{well_spaced}
use Rattle.chars.proofs.Laws.Class.{atom_range}
use Rattle.chars.proofs.Laws.Lists.{all_append, all-at, all_ext, all_weaken, and_both, and_left, and_right, by_test, first-append, first-at, last-append, last-at, last_cons, or_cases, true_not_false}
use Rattle.chars.proofs.Laws.Parts.{clear, parted-all, parted-some, run_at}
use Rattle.chars.proofs.Laws.Seq.{byte_inside, some-append}
use Rattle.chars.proofs.Laws.Spaces.{parted_spaced}
use Rattle.mailaddr.specs.Shape.{Address, address_text, closing, escaped, inner, is_readable, is_text, longest_address, more, plain_shape, quoted_local, quoted_shape, shape_of, unescaped, unquoted_local, with_local}
use Rattle.mailaddr.specs.Answers.{address_at, from_shape, local_at, shaping}
use Rattle.mailaddr.specs.declared.shape.Parted.{Parted}
use Rattle.chars.proofs.Laws.Options.{none-some, some_same}
use Rattle.std.proofs.lemmas.Option.{none-some as none-Some}
use Rattle.mailaddr.proofs.Laws.Closing.{closes, escaped_close, escaped_longer, escaped-plain, inner-at, inner-none, length-escaped, more-some, unescape_escape}

-- ---- the bytes of atoms

abbrev atom_byte : ℕ → Bool
unfolding is_atom_char
atom_byte x = eqb x 46 || is_atom_char x

atoms-all : (l : List ℕ) → is_atoms l ≡ true → all atom_byte l ≡ true
unfolding is_atoms
atoms-all l h = parted-all 46 is_atom_char l h

atoms-some : (l : List ℕ) → is_atoms l ≡ true → 0 < length l
unfolding is_atoms non_empty
atoms-some [] h = true_not_false true refl (sym (parted-some 46 is_atom_char [] h))
atoms-some (x ∷ l) h = omega arith

atom_byte_lem : (x : ℕ) → atom_byte x ≡ true → (33 ≤ x) × (x ≤ 126)
unfolding atom_byte
atom_byte_lem x h =
    or_cases (eqb x 46) (is_atom_char x) h
    (λ e. let q : x ≡ 46 = eqb-true x 46 e in (omega arith, omega arith))
    (atom_range x)

atom_not : (c : ℕ) → atom_byte c ≡ false → (x : ℕ) → atom_byte x ≡ true → eqb x c ≡ false
atom_not c h x e = ne_eqb x c (λ r. true_not_false (atom_byte x) e (ap atom_byte r ∙ h))

no_at : atom_byte 64 ≡ false
unfolding is_atom_char between bytes member
no_at = refl

no_quote : atom_byte 34 ≡ false
unfolding is_atom_char between bytes member
no_quote = refl

atoms-clear : (l : List ℕ) → is_atoms l ≡ true → clear 64 l ≡ true
unfolding all
atoms-clear l h = all_weaken atom_byte (λ x. not (eqb x 64)) (λ x e. rw (atom_not 64 no_at x e)) l (atoms-all l h)

atoms-first : (l : List ℕ) → is_atoms l ≡ true → atom_byte (first l) ≡ true
atoms-first l h = rw (first-at l) (all-at atom_byte l 0 0 (atoms-all l h) (atoms-some l h))

atoms-last : (l : List ℕ) → is_atoms l ≡ true → atom_byte (last l) ≡ true
atoms-last l h = rw (last-at l) (all-at atom_byte l (length l - 1) 0 (atoms-all l h) (omega (arith, atoms-some l h)))

-- ---- the parts of an address

-- one quoted string: a quote, and what closes at the end
pub record Quoted (l : List ℕ) : Type 0 where
  pub inside : List ℕ
  pub opened : l ≡ 34 ∷ inside
  pub shut : closing inside ≡ Some (length inside)

-- a local part: a quoted string, or atoms joined by dots
unfoldable pub IsLocal : Bool → List ℕ → Type 0
IsLocal true l = Quoted l
IsLocal false l = is_atoms l ≡ true

-- An address of the accepted shape is its two parts joined by `@`.
pub record Shaped (s : List ℕ) (a : Address) : Type 0 where
  pub text : s ≡ a.local ++ 64 ∷ a.domain
  pub domain : is_atoms a.domain ≡ true
  pub local : IsLocal a.is_quoted a.local

with_some : (q : Bool) (n : ℕ) (s : List ℕ) (a : Address) → with_local q n s ≡ some a
    → (get_or s n 0 ≡ 64) × (is_atoms (drop (n + 1) s) ≡ true) × (a ≡ record { local = take n s; is_quoted = q; domain = drop (n + 1) s })
unfolding with_local
with_some q n s a h =
    by_test (eqb (get_or s n 0) 64 && is_atoms (drop (n + 1) s))
    (λ e. (eqb-true (get_or s n 0) 64 (and_left (eqb (get_or s n 0) 64) (is_atoms (drop (n + 1) s)) e), and_right (eqb (get_or s n 0) 64) (is_atoms (drop (n + 1) s)) e, sym (some_same (rw e at h))))
    (λ e. none-some (rw e at h))

shaped-by : (q : Bool) (n : ℕ) (s : List ℕ) (a : Address) → with_local q n s ≡ some a → IsLocal q (take n s) → Shaped s a
shaped-by q n s a h k =
    let w = with_some q n s a h in
    rw w.2
    (record {
      text = split_at s n 0 (byte_inside s n (omega (arith, w.0))) ∙ rw (w.0, add-one n);
      domain = w.1;
      local = k;
    })

shaped-quoted : (s : List ℕ) (a : Address) (o : Option ℕ) → eqb (first s) 34 ≡ true → closing (drop 1 s) ≡ o → quoted_shape s o ≡ some a → Shaped s a
unfolding quoted_shape first IsLocal
shaped-quoted [] a o e c h = true_not_false true refl (sym e)
shaped-quoted (x ∷ t) a None e c h = none-some h
shaped-quoted (x ∷ t) a (Some n) e c h =
    let k = closes t n c in
    shaped-by true (n + 1) (x ∷ t) a h
    (record {
      inside = take n t;
      opened = rw (add-one n, eqb-true x 34 e);
      shut = k.whole ∙ ap Some (sym (length-take-le n t k.inside));
    })

shaped-plain : (s : List ℕ) (a : Address) → plain_shape s ≡ some a → Shaped s a
unfolding plain_shape IsLocal
shaped-plain s a h =
    by_test (is_atoms (take (run 64 s) s))
    (λ e. shaped-by false (run 64 s) s a (rw e at h) e)
    (λ e. none-some (rw e at h))

shape-parts : (s : List ℕ) (a : Address) → shape_of s ≡ some a → Shaped s a
unfolding shape_of
shape-parts s a h =
    by_test (eqb (first s) 34)
    (λ e. shaped-quoted s a (closing (drop 1 s)) e refl (rw e at h))
    (λ e. shaped-plain s a (rw e at h))

pub shape-text : (s : List ℕ) (a : Address) → shape_of s ≡ some a → s ≡ a.local ++ 64 ∷ a.domain
shape-text s a h = (shape-parts s a h).text

pub shape-domain : (s : List ℕ) (a : Address) → shape_of s ≡ some a → is_atoms a.domain ≡ true
shape-domain s a h = (shape-parts s a h).domain

pub shape-local : (s : List ℕ) (a : Address) → shape_of s ≡ some a → IsLocal a.is_quoted a.local
shape-local s a h = (shape-parts s a h).local

-- ---- the shape is unambiguous

with_parts : (q : Bool) (l d : List ℕ) → is_atoms d ≡ true
    → with_local q (length l) (l ++ 64 ∷ d) ≡ some (record { local = l; is_quoted = q; domain = d })
unfolding with_local
with_parts q l d h = rw (get_or-append_seam l 64 d 0, take-append_seam l (64 ∷ d), drop-append-add l (64 ∷ d) 1, h)

cond_true : {A : Type 0} {t : Bool} {x y : A} (z : A) → t ≡ true → x ≡ y → cond t x z ≡ y
cond_true z e f = rw e f

pub shape_one : (q : Bool) (l d : List ℕ) → IsLocal q l → is_atoms d ≡ true
    → shape_of (l ++ 64 ∷ d) ≡ some (record { local = l; is_quoted = q; domain = d })
unfolding IsLocal shape_of quoted_shape plain_shape first
shape_one true l d k h =
    rw (k.opened, (closes k.inside (length k.inside) k.shut).longer (64 ∷ d), add-one)
    (with_parts true (34 ∷ k.inside) d h)
shape_one false l d k h =
    rw (first-append l (64 ∷ d) (atoms-some l k), atom_not 34 no_quote (first l) (atoms-first l k), run_at 64 l d (atoms-clear l k))
    (cond_true none (ap is_atoms (take-append_seam l (64 ∷ d)) ∙ k) (with_parts false l d h))

-- ---- the bytes of an address

abbrev is_byte : ℕ → Bool
unfolding between
is_byte b = between 32 126 b

byte_between : (b : ℕ) → 32 ≤ b → b ≤ 126 → is_byte b ≡ true
unfolding between
byte_between b h k = rw (le-leb 32 b h, le-leb b 126 k)

atoms-bytes : (l : List ℕ) → is_atoms l ≡ true → all is_byte l ≡ true
atoms-bytes l h =
    all_weaken atom_byte is_byte (λ x e. let r = atom_byte_lem x e in byte_between x (omega (arith, r.0)) r.1) l (atoms-all l h)

local-bytes : (q : Bool) (l : List ℕ) → IsLocal q l → all is_byte l ≡ true
unfolding IsLocal all is_text between
local-bytes true l k =
    let c = (closes k.inside (length k.inside) k.shut).texts in
    rw k.opened (rw (take-length k.inside) at c)
local-bytes false l k = atoms-bytes l k

pub shape-bytes : (s : List ℕ) (a : Address) → shape_of s ≡ some a → all (λ b. between 32 126 b) s ≡ true
unfolding all between
shape-bytes s a h =
    ap (all is_byte) (shape-text s a h)
    ∙ all_append is_byte a.local (64 ∷ a.domain)
    ∙ and_both (local-bytes a.is_quoted a.local (shape-local s a h)) (atoms-bytes a.domain (shape-domain s a h))

local-first : (q : Bool) (l : List ℕ) → IsLocal q l → (0 < length l) × (33 ≤ first l)
unfolding IsLocal first
local-first true l k = rw k.opened (omega arith, omega arith)
local-first false l k = (atoms-some l k, (atom_byte_lem (first l) (atoms-first l k)).0)

-- it is not empty, and neither begins nor ends with a space
pub shape-ends : (s : List ℕ) (a : Address) → shape_of s ≡ some a → (non_empty s ≡ true) × (first s ≡ 32 → ⊥) × (last s ≡ 32 → ⊥)
unfolding non_empty
shape-ends s a h =
    let t = shape-text s a h in
    let d = shape-domain s a h in
    let f = local-first a.is_quoted a.local (shape-local s a h) in
    let b : first s ≡ first a.local = ap first t ∙ first-append a.local (64 ∷ a.domain) f.0 in
    let e : last s ≡ last a.domain =
    ap last t ∙ last-append a.local (64 ∷ a.domain) (omega arith) ∙ last_cons 64 a.domain (atoms-some a.domain d) in (
      ap non_empty t ∙ some-append a.local (64 ∷ a.domain) refl,
      λ q. omega (arith, f.1),
      λ q. omega (arith, (atom_byte_lem (last a.domain) (atoms-last a.domain d)).0),
    )

-- ---- quoting

pub quoted-atoms : (u : List ℕ) → is_atoms u ≡ true → quoted_local u ≡ u
unfolding quoted_local
quoted-atoms u h = rw h

pub quoted_other : (u : List ℕ) → is_atoms u ≡ false → quoted_local u ≡ 34 ∷ escaped u ++ (34 ∷ [])
unfolding quoted_local
quoted_other u h = rw h

-- quoting makes no local part shorter
pub quoted_longer : (u : List ℕ) → length u ≤ length (quoted_local u)
quoted_longer u =
    by_test (is_atoms u)
    (λ e. rw (quoted-atoms u e) (omega arith))
    (λ e. rw (quoted_other u e) (omega (arith, length-append (escaped u) (34 ∷ []), escaped_longer u)))

-- a text of bytes 32 to 126 between quotes
pub quoted-text : (u : List ℕ) → all is_text u ≡ true → Quoted (34 ∷ escaped u ++ (34 ∷ []))
quoted-text u h =
    record {
      inside = escaped u ++ (34 ∷ []);
      opened = refl;
      shut = escaped_close u h ∙ ap Some (sym (length-append (escaped u) (34 ∷ [])));
    }

-- such a text is a local part when it is quoted
quoted-local : (u : List ℕ) → all is_text u ≡ true → IsLocal (not (is_atoms u)) (quoted_local u)
unfolding IsLocal
quoted-local u h =
    by_test (is_atoms u)
    (λ e. rw (quoted-atoms u e, e) e)
    (λ e. rw (quoted_other u e, e) (quoted-text u h))

pub quote_shape : (u d : List ℕ) → all is_text u ≡ true → is_atoms d ≡ true
    → shape_of (address_text u d) ≡ some (record { local = quoted_local u; is_quoted = not (is_atoms u); domain = d })
unfolding address_text
quote_shape u d h k = shape_one (not (is_atoms u)) (quoted_local u) d (quoted-local u h) k

inner-quoted : (t : List ℕ) → inner (34 ∷ t ++ (34 ∷ [])) ≡ t
unfolding inner
inner-quoted t = take_at t (34 ∷ []) (suc (length (t ++ (34 ∷ []))) - 2) (simp length-append (omega arith))

-- what stands between the quotes means the text
pub unquoted-text : (u : List ℕ) → unescaped (inner (34 ∷ escaped u ++ (34 ∷ []))) ≡ u
unquoted-text u = rw (inner-quoted (escaped u)) (unescape_escape u)

pub quote_unquote : (u d : List ℕ) → unquoted_local (record { local = quoted_local u; is_quoted = not (is_atoms u); domain = d }) ≡ u
unfolding unquoted_local
quote_unquote u d =
    by_test (is_atoms u)
    (λ e. rw (quoted-atoms u e, e))
    (λ e. rw (quoted_other u e, e) (unquoted-text u))

pub length-quoted : (u : List ℕ) → length (quoted_local u) ≤ 2 * length u + 2
length-quoted u =
    by_test (is_atoms u)
    (λ e. rw (quoted-atoms u e) (omega arith))
    (λ e. rw (quoted_other u e) (omega (arith, length-append (escaped u) (34 ∷ []), length-escaped u)))

quotable_plain : (x : ℕ) → is_quotable x ≡ true → not (eqb x 34 || eqb x 92) ≡ true
unfolding is_quotable is_printable is_letter is_digit between bytes member
quotable_plain x h =
    by_test (eqb x 34)
    (λ e. true_not_false (is_quotable x) h (rw (eqb-true x 34 e)))
    (λ e. by_test (eqb x 92)
    (λ f. true_not_false (is_quotable x) h (rw (eqb-true x 92 f)))
    (λ f. rw (e, f)))

-- where it has no quote and no backslash, the two quotes are all that quoting adds
length-quoted-plain : (u : List ℕ) → all (λ x. not (eqb x 34 || eqb x 92)) u ≡ true → is_atoms u ≡ false → length (quoted_local u) ≡ length u + 2
length-quoted-plain u h e = rw (quoted_other u e, escaped-plain u h) (omega (arith, length-append u (34 ∷ [])))

pub length-quoted_quotable : (u : List ℕ) → all is_quotable u ≡ true → is_atoms u ≡ false → length (quoted_local u) ≡ length u + 2
length-quoted_quotable u h = length-quoted-plain u (all_weaken is_quotable (λ x. not (eqb x 34 || eqb x 92)) quotable_plain u h)

-- ---- what the code asks, in its order

pub quoted-at : (s : List ℕ) (o : Option ℕ) (e : ℕ) → more 1 o ≡ Some e → quoted_shape s o ≡ with_local true e s
unfolding quoted_shape
quoted-at s o e h =
    let q = more-some 1 o e h in
    let n : q.0 + 1 ≡ e = omega (arith, q.2) in
    rw (q.1, n)

pub quoted_never : (s : List ℕ) (o : Option ℕ) → more 1 o ≡ None → quoted_shape s o ≡ none
unfolding quoted_shape more
quoted_never s None h = refl
quoted_never s (Some n) h = absurd (none-Some (1 + n) (sym h))

pub plain_at : (s : List ℕ) (e : ℕ) → e ≡ 0 + run 64 (drop 0 s) → plain_shape s ≡ cond (is_atoms (take e s)) (with_local false e s) none
unfolding plain_shape
plain_at s e h = rw (h, zero-add)

pub shaping-quoted : (s : List ℕ) → length s ≤ longest_address → get_or s 0 0 ≡ 34 → shaping s ≡ from_shape (quoted_shape s (closing (drop 1 s)))
unfolding shaping shape_of
shaping-quoted s h e = rw (le-ltb longest_address (length s) h, first-at s, eq-eqb (get_or s 0 0) 34 e)

pub shaping-plain : (s : List ℕ) → length s ≤ longest_address → (get_or s 0 0 ≡ 34 → ⊥) → shaping s ≡ from_shape (plain_shape s)
unfolding shaping shape_of
shaping-plain s h e = rw (le-ltb longest_address (length s) h, first-at s, ne_eqb (get_or s 0 0) 34 e)

pub local-plain : (s : List ℕ) (p : Parted) → p.quoted ≡ false → local_at s p ≡ take p.at s
unfolding local_at unquoted_local address_at
local-plain s p e = rw e

pub local-none : (s : List ℕ) (p : Parted) → p.quoted ≡ true → p.at < 2 → p.at ≤ length s → local_at s p ≡ []
unfolding local_at unquoted_local address_at unescaped
local-none s p e h k = rw (e, inner-none s p.at h k)

pub local-quoted : (s : List ℕ) (p : Parted) → p.quoted ≡ true → 2 ≤ p.at → p.at ≤ length s
    → local_at s p ≡ unescaped (take (p.at - 1 - 1) (drop 1 s))
unfolding local_at unquoted_local address_at
local-quoted s p e h k = rw (e, inner-at s p.at h k)

space_quotable : (x : ℕ) → is_quotable x ≡ eqb x 32 || is_quotable x
unfolding is_quotable is_printable is_letter is_digit between bytes member
space_quotable x = by_test (eqb x 32) (λ e. rw (eqb-true x 32 e)) (λ e. rw e)

and_last : (a b c : Bool) → (a && b && c) ≡ (a && c && b)
and_last true true true = refl
and_last true true false = refl
and_last true false true = refl
and_last true false false = refl
and_last false b c = refl

pub readable_parted : (s : List ℕ) → is_readable s ≡ is_parted 32 is_quotable s
unfolding is_readable
readable_parted s =
    and_last (non_empty s) (well_spaced s) (all is_quotable s)
    ∙ ap (λ (t : Bool). non_empty s && t && well_spaced s) (all_ext is_quotable (λ x. eqb x 32 || is_quotable x) space_quotable s)
    ∙ sym (parted_spaced is_quotable s)
