-- A bare address of the accepted shape reads as a mailbox with no phrase, the same unquoted local part and the same domain.
-- Assumes nothing.
use mathlib.Core.Path.{◌≡◌, refl}
use mathlib.Core.Bool.{Bool, true, false}
use mathlib.Core.List.{List, [], ◌∷◌, ◌++◌, append-nil}
use mathlib.Core.Option.{some}
use Prim.Native.Nat.{ℕ, suc, ◌+◌, ◌-◌, ◌≤◌}
use native.Mathlib.Nat.{zero-add}
use native.Mathlib.Omega.{arith}
use borrow.Author.Tests.{le-ltb}
use lib.ListN.{length, take}
use lib.Seq.{take-append-le}
use Rattle.chars.specs.Parts.{is_atoms, split, join}
use Rattle.mailaddr.specs.Shape.{Address, inner, shape_of, unescaped, unquoted_local}
use Rattle.mailaddr.proofs.Laws.Closing.{closes}
use Rattle.mailaddr.proofs.Laws.Shape.{IsLocal, Quoted, shape-domain, shape-local, shape-text}
use Rattle.lexical.specs.Tokens.{Word, longest_line, tokens_at, tokens_from}
use Rattle.mailbox_address.specs.Grammar.{addr_spec, allowed, any_quoted, at_domain, behind, domain, ended, local_part, mailbox, meaning_of, or_else, whole, with_domain, with_local}
use Rattle.mailbox.specs.Mailbox.{bare_in, bare_of, empty_start, read, reading, reading_of}
use Rattle.lexical.proofs.Laws.AddressNesting.{address_shallow}
use Rattle.lexical.proofs.Laws.AddressTokens.{at_no_atom, end_no_atom, quoted-closing, tokens-at, tokens-quoted}
use Rattle.mailbox_address.proofs.Laws.AddressWords.{atom_words, dotted-atoms, dotted-last, no_dot, words-split, words-unquoted}

-- ---- the local part

at_no_dot : (i : ℕ) (d : List ℕ) → no_dot (tokens_from i 0 (64 ∷ d)) ≡ true
unfolding no_dot
at_no_dot i d = rw (tokens-at i d)

-- a text before an `@` reads as a local part of this meaning, quoted or not
pub record ReadLocal (l d : List ℕ) (q : Bool) (u : List ℕ) : Type 0 where
  pub words : List Word
  pub reads : local_part (tokens_from 0 0 (l ++ 64 ∷ d)) ≡ some (record { words = words; rest = tokens_from (length l) 0 (64 ∷ d) })
  pub quotes : any_quoted words ≡ q
  pub means : meaning_of words ≡ u

-- what stands between the quotes, in whatever text it stands
pub inner-before : (t r : List ℕ) (n : ℕ) → length t ≡ suc n → inner (34 ∷ t) ≡ take n (t ++ r)
unfolding inner
inner-before t r n h =
    let e : suc (length t) - 2 ≡ n = omega arith in
    rw (e, take-append-le n t r (omega arith))

local-quoted : (l d : List ℕ) → Quoted l → ReadLocal l d true (unescaped (inner l))
unfolding local_part any_quoted meaning_of join allowed
local-quoted l d k =
    let t = k.inside in
    let q = quoted-closing (t ++ 64 ∷ d) (length t) ((closes t (length t) k.shut).longer (64 ∷ d)) in
    let u = unescaped (take q.before (t ++ 64 ∷ d)) in
    let w : Word = record { start = 0; end = suc (length t); is_quoted = true; meaning = u } in
    rw (k.opened, inner-before t (64 ∷ d) q.before q.size)
    (record {
      words = w ∷ [];
      reads = rw (tokens-quoted 0 t (64 ∷ d) (length t) u q.reads refl (omega (arith, q.size)), zero-add) (dotted-last (allowed true) w (tokens_from (suc (length t)) 0 (64 ∷ d)) refl (at_no_dot (suc (length t)) d));
      quotes = refl;
      means = refl;
    })

local-plain : (l d : List ℕ) → is_atoms l ≡ true → ReadLocal l d false l
unfolding local_part
local-plain l d k =
    record {
      words = atom_words 0 (split 46 l);
      reads = rw (zero-add) at (dotted-atoms true 0 l (64 ∷ d) k (at_no_atom d) (at_no_dot (0 + length l) d));
      quotes = words-unquoted 0 (split 46 l);
      means = words-split 0 l;
    }

-- ---- the address

domain-atoms : (i : ℕ) (d : List ℕ) → is_atoms d ≡ true → domain (tokens_from i 0 d) ≡ some (record { words = atom_words i (split 46 d); rest = [] })
unfolding domain tokens_from no_dot
domain-atoms i d h = rw (append-nil d) at (dotted-atoms false i d [] h end_no_atom refl)

-- a local part that reads, an `@` and atoms joined by dots
addr_parts : (l d : List ℕ) (q : Bool) (u : List ℕ) (k : ReadLocal l d q u) → is_atoms d ≡ true
    → addr_spec (tokens_from 0 0 (l ++ 64 ∷ d)) ≡ some (record { local = k.words; domain' = atom_words (suc (length l)) (split 46 d); rest = [] })
unfolding addr_spec with_local at_domain behind with_domain
addr_parts l d q u k h = rw (k.reads, tokens-at (length l) d, domain-atoms (suc (length l)) d h)

pub bare_parts : (l d : List ℕ) (q : Bool) (u : List ℕ) → ReadLocal l d q u → is_atoms d ≡ true
    → bare_in (l ++ 64 ∷ d) ≡ some (record { local = u; is_quoted = q; domain = d; phrase = empty_start })
unfolding bare_in bare_of tokens_at mailbox or_else whole ended
bare_parts l d q u k h = rw (addr_parts l d q u k h, k.quotes, k.means, words-split (suc (length l)) d)

-- ---- a bare address of accepted shape reads with no phrase as an address of the same meaning: the same unquoted local part and the same domain

local-reads : (q : Bool) (l d : List ℕ) → IsLocal q l → ReadLocal l d q (unquoted_local (record { local = l; is_quoted = q; domain = d }))
unfolding IsLocal unquoted_local
local-reads true l d k = local-quoted l d k
local-reads false l d k = local-plain l d k

pub address-reads : (s : List ℕ) (a : Address) → shape_of s ≡ some a
    → bare_in s ≡ some (record { local = unquoted_local a; is_quoted = a.is_quoted; domain = a.domain; phrase = empty_start })
address-reads s a h =
    rw (shape-text s a h)
    (bare_parts a.local a.domain a.is_quoted (unquoted_local a) (local-reads a.is_quoted a.local a.domain (shape-local s a h)) (shape-domain s a h))

-- so does the whole reading of a line that is not too long
pub address-reading : (s : List ℕ) (a : Address) → shape_of s ≡ some a → length s ≤ longest_line
    → reading s ≡ read (record { local = unquoted_local a; is_quoted = a.is_quoted; domain = a.domain; phrase = empty_start })
unfolding reading reading_of
address-reading s a h k = rw (le-ltb longest_line (length s) k, address_shallow s a h, address-reads s a h)
