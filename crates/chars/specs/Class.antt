-- The byte classes of document 01: "The record", "The table text" and "Address to record", which all crates share. Each is written from the
-- list in its sentence, the printable string characters as ranges with the list beside them. Classes that one crate alone has (the bytes of
-- a quoted string, of a comment, of RFC 1137's coding) stand there.
-- Assumes nothing.
use Rattle.std.specs.Prelude.{ℕ, ◌<◌, Bool, true, false, ◌&&◌, ◌||◌, not, List, [], ◌∷◌, ◌++◌, ◌≡◌, leb, eqb}
use Rattle.chars.specs.Lists.{bytes, member}
use Rattle.chars.specs.declared.class.Class.{Class}
use Rattle.chars.specs.declared.class.Class.TheVariants.{Any, Atom, Digit, Label, Letter, Printable, Quotable}

-- from lo to hi, both included
unfoldable pub between : ℕ → ℕ → ℕ → Bool
between lo hi b = leb lo b && leb b hi

-- the highest code of an ASCII character
abbrev pub highest_code : ℕ
highest_code = 127

-- RFC 822's CHAR: any ASCII character, 0 to 127
unfoldable pub is_char : ℕ → Bool
is_char b = leb b highest_code

-- a letter: A to Z and a to z, and no byte over 127
unfoldable pub is_letter : ℕ → Bool
unfolding between
is_letter b = between 65 90 b || between 97 122 b

-- a digit: 0 to 9
unfoldable pub is_digit : ℕ → Bool
unfolding between
is_digit b = between 48 57 b

-- from the byte lo to the byte hi, both included
pub record Range : Type 0 where
  pub lo : ℕ
  pub hi : ℕ

-- b lies in one of the ranges
unfoldable pub in_one_of : List Range → ℕ → Bool
unfolding between
in_one_of [] b = false
in_one_of (r ∷ rs) b = between r.lo r.hi b || in_one_of rs b

-- The printable string characters, in the order of their bytes. RFC 1327, 3.3.3:
--     ps-restricted-char = 1DIGIT / 1ALPHA / " " / "'" / "+" / "," / "-" / "." / "/" / ":" / "=" / "?"
--     ps-delim           = "(" / ")"
--     ps-char            = ps-delim / ps-restricted-char
unfoldable pub printable_ranges : List Range
printable_ranges =
    record { lo = 32; hi = 32 }  -- space
    ∷ record { lo = 39; hi = 41 }  -- ' ( )
    ∷ record { lo = 43; hi = 58 }  -- + , - . / 0 1 2 3 4 5 6 7 8 9 :
    ∷ record { lo = 61; hi = 61 }  -- =
    ∷ record { lo = 63; hi = 63 }  -- ?
    ∷ record { lo = 65; hi = 90 }  -- A B C D E F G H I J K L M N O P Q R S T U V W X Y Z
    ∷ record { lo = 97; hi = 122 }  -- a b c d e f g h i j k l m n o p q r s t u v w x y z
    ∷ []

unfoldable pub is_printable : ℕ → Bool
unfolding in_one_of printable_ranges
is_printable b = in_one_of printable_ranges b

-- the same set as document 01 prints it: "printable string characters (letters, digits, space `' + , - . / : = ? ( )`)"
unfoldable pub printable_list : List ℕ
unfolding bytes
printable_list =
    bytes "ABCDEFGHIJKLMNOPQRSTUVWXYZabcdefghijklmnopqrstuvwxyz"
    ++ bytes "0123456789"
    ++ bytes " '+,-./:=?()"

-- for each of the 256 bytes the ranges answer as the list does
abbrev pub PrintableIsTheList : Type 0
PrintableIsTheList = (b : ℕ) → b < 256 → is_printable b ≡ member b printable_list

-- document 01: "the printable string set and `$`"
unfoldable pub is_quotable : ℕ → Bool
unfolding is_printable
is_quotable b = is_printable b || eqb b 36

-- RFC 822's specials: `( ) < > @ , ; : \ " . [ ]`
abbrev pub is_special : ℕ → Bool
unfolding bytes member
is_special b = member b (bytes "()<>@,;:\\\".[]")

-- RFC 822's atoms are of any CHAR but specials, SPACE and CTLs: bytes 33 to 126 without the specials
unfoldable pub is_atom_char : ℕ → Bool
unfolding bytes member between
is_atom_char b = between 33 126 b && not (is_special b)

-- what a domain part is made of: "letters, digits and inner hyphens"; where a hyphen may stand is `is_domain_part`'s to say
unfoldable pub is_label_char : ℕ → Bool
unfolding is_letter is_digit
is_label_char b = is_letter b || is_digit b || eqb b 45

-- the class that a value of the enum `Class` names
unfoldable pub is_in : Class → ℕ → Bool
is_in Letter b = is_letter b
is_in Digit b = is_digit b
is_in Printable b = is_printable b
is_in Quotable b = is_quotable b
is_in Atom b = is_atom_char b
is_in Label b = is_label_char b
is_in Any b = true
