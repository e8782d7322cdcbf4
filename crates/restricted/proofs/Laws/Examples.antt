-- RFC 1137's examples and request 9's, computed.
-- Assumes nothing.
use mathlib.Core.Path.{◌≡◌, refl}
use mathlib.Core.List.{List, [], ◌∷◌, map}
use Prim.Native.Nat.{ℕ}
use Rattle.chars.specs.Case.{fold_case}
use Rattle.chars.specs.Class.{between, is_char, is_digit}
use Rattle.chars.specs.Digits.{digits_number, is_number_group}
use Rattle.chars.specs.Lists.{bytes, member, onto}
use Rattle.restricted.specs.Code.{char_in, char_of, code_char, coded, decoded, is_control, is_plain, is_short_group, letter_in, letter_of, numbered, or_as_it_stands, parse, parsed_after, short}

-- a text, how it is coded, and another text that decodes to it
pub record Example : Type 0 where
  pub full : List ℕ
  pub restricted : List ℕ
  pub read : List ℕ

abbrev pub examples : List Example
unfolding bytes
examples =
    record { full = bytes "Steve.Kille"; restricted = bytes "Steve.Kille"; read = bytes "#083#teve.Kille" }
    ∷ record { full = bytes "Steve Kille"; restricted = bytes "Steve_Kille"; read = bytes "Steve#032#Kille" }
    ∷ record { full = bytes "argle#~"; restricted = bytes "argle#h#~"; read = bytes "argle#h##126#" }
    ∷ record { full = bytes "/a=b/"; restricted = bytes "/a=b/"; read = bytes "#s#a#E#b#S#" }
    ∷ record { full = bytes "#128#"; restricted = bytes "#h#128#h#"; read = bytes "#128#" }
    ∷ []

-- each is coded so, and both decode to the text
abbrev pub worked : Example → Example
unfolding coded decoded
worked e = record { full = decoded e.restricted; restricted = coded e.full; read = decoded e.read }

abbrev pub wanted : Example → Example
wanted e = record { full = e.full; restricted = e.restricted; read = e.full }

pub every_example : map worked examples ≡ map wanted examples
unfolding bytes member decoded or_as_it_stands parse parsed_after onto is_short_group char_of char_in fold_case between short is_number_group digits_number is_digit coded code_char is_plain is_char is_control letter_of letter_in numbered
every_example = refl
