-- What the answers of the code stand for.
-- Assumes nothing.
use Rattle.std.specs.Prelude.{◌≡◌, ℕ, zero, suc, ◌+◌, ◌≤◌, ◌<◌, cond, List, Option, Some, None, Result, Ok, Err, IfSome, eqb, ltb, length, take, drop, get_or}
use Rattle.std.proofs.Math.Option as math
use Rattle.chars.specs.Lists.{onto}
use Rattle.chars.specs.Write.{front}
use Rattle.mailaddr.specs.Code.{char_of, decoded, longest_coded_char}
use Rattle.mailaddr.specs.Shape.{Address, longest_address, shape_of, unquoted_local}
use Rattle.mailaddr.specs.declared.code.Group.{Group}
use Rattle.mailaddr.specs.declared.shape.AddressFault.{AddressFault}
use Rattle.mailaddr.specs.declared.shape.AddressFault.TheVariants.{TooLong, NoShape}
use Rattle.mailaddr.specs.declared.shape.Parted.{Parted}

-- what reading the shape of a text comes to: the address, or document 01's refusals 2 and 1
unfoldable pub from_shape : math.Option Address → Result Address AddressFault
from_shape math.none = Err NoShape
from_shape (math.some a) = Ok a

-- refusal 2 comes before refusal 1
unfoldable pub shaping : List ℕ → Result Address AddressFault
unfolding from_shape shape_of
shaping s = cond (ltb longest_address (length s)) (Err TooLong) (from_shape (shape_of s))

-- the address whose `@` stands at a place
unfoldable pub address_at : List ℕ → Parted → Address
address_at s p = record { local = take p.at s; is_quoted = p.quoted; domain = drop (p.at + 1) s }

unfoldable pub shape_answer : List ℕ → Result Parted AddressFault → Result Address AddressFault
unfolding address_at
shape_answer s (Ok p) = Ok (address_at s p)
shape_answer s (Err e) = Err e

unfoldable pub local_at : List ℕ → Parted → List ℕ
unfolding unquoted_local address_at
local_at s p = unquoted_local (address_at s p)

-- a number that is 0 where there is none
abbrev pub unless_zero : ℕ → Option ℕ
unless_zero zero = None
unless_zero (suc n) = Some (suc n)

-- behind an opening parenthesis: the character of a letter and a closing one, 0 where these do not follow
unfoldable pub letter_group : List ℕ → ℕ
unfolding char_of
letter_group s = cond (eqb (get_or s 1 0) 41) (char_of (get_or s 0 0)) 0

-- what a text decodes to that begins with a group, or with a parenthesis outside a group
unfoldable pub from_group : Option Group → List ℕ → math.Option (List ℕ)
unfolding onto decoded
from_group None s = math.none
from_group (Some g) s = onto g.char (decoded (drop g.len s))

-- the text begins with the group, or does not decode
pub record Grouped (s : List ℕ) (o : Option Group) : Type 0 where
  pub spans : IfSome o (λ g. (0 < g.len) × (g.len ≤ longest_coded_char))
  pub holds : decoded s ≡ from_group o s

-- decoding a text into a buffer: the decoded text at its front, and the rest as before; or that it does not decode
unfoldable pub Decoding : List ℕ → List ℕ → Option ℕ → List ℕ → Type 0
unfolding decoded front
Decoding s old (Some n) new = (t : List ℕ) × (decoded s ≡ math.some t) × (n ≡ length t) × (new ≡ front t old)
Decoding s old None new = decoded s ≡ math.none
