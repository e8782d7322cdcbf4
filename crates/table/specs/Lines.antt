-- Document 01, "The table text": its lines, which of them is bad, and the table that they spell.
-- Assumes nothing.
use Rattle.std.specs.Prelude.{ℕ, suc, ◌+◌, Bool, true, false, ◌&&◌, ◌||◌, not, cond, List, [], ◌∷◌, ◌++◌, leb, ltb, eqb, length, get_or, drop}
use Rattle.chars.specs.Lists.{all, non_empty}
use Rattle.chars.specs.Case.{agree, equal_text, same_text}
use Rattle.chars.specs.Parts.{split}
use Rattle.oraddr.specs.Bounds.{level_count, rule}
use Rattle.oraddr.specs.Canonical.{is_unit}
use Rattle.mailaddr.specs.Domain.{is_domain}
use Rattle.table.specs.Table.{Row, Table, Token}

-- the limits of "The table text", each by one name
abbrev pub longest_table : ℕ
longest_table = 65536

abbrev pub longest_gateway_domain : ℕ
longest_gateway_domain = 253

abbrev pub longest_row_domain : ℕ
longest_row_domain = 40

abbrev pub most_rows : ℕ
most_rows = 512

-- A line, and whether its LF is there.
pub record Line : Type 0 where
  pub text : List ℕ
  pub ended : Bool

-- "Each line ends in LF": the parts between LFs are lines, and what stands behind the last LF is an unfinished line if it is there
-- at all. "Empty text is bad at line 1": it is one unfinished line.
unfoldable pub lines_of : List (List ℕ) → List Line
unfolding non_empty
lines_of [] = []
lines_of (p ∷ []) = cond (non_empty p) (record { text = p; ended = false } ∷ []) []
lines_of (p ∷ q ∷ ps) = record { text = p; ended = true } ∷ lines_of (q ∷ ps)

unfoldable pub table_lines : List ℕ → List Line
unfolding lines_of split
table_lines s = cond (non_empty s) (lines_of (split 10 s)) (record { text = []; ended = false } ∷ [])

-- ---- a line by itself

-- "Values keep the record's rules", level by level: C, ADMD, PRMD, O have the numbers 0 to 3, the units follow
unfoldable pub is_level : ℕ → Token → Bool
unfolding rule is_unit
is_level k s = cond (ltb k 4) (rule k s) (is_unit s)

-- "Only PRMD may be an empty field, meaning omitted"
unfoldable pub is_field : ℕ → Token → Bool
unfolding is_level non_empty
is_field k s = is_level k s || eqb k 2 && not (non_empty s)

unfoldable pub are_fields : ℕ → List Token → Bool
unfolding is_field
are_fields k [] = true
are_fields k (s ∷ ss) = is_field k s && are_fields (suc k) ss

-- "A path gives levels from C, two to eight fields."
unfoldable pub is_path : List Token → Bool
unfolding are_fields
is_path ss = leb 2 (length ss) && leb (length ss) level_count && are_fields 0 ss

-- a line could spell this row: its domain is one of at most so many bytes, and its path is one
unfoldable pub is_row : ℕ → Row → Bool
unfolding is_domain is_path
is_row most r = leb (length r.domain) most && is_domain r.domain && is_path r.path

-- the row of a line: its fields, one tab between two, are the tag, the domain, and those of the path
unfoldable pub row_of : List Token → Row
row_of fs = record { domain = get_or fs 1 []; path = drop 2 fs }

unfoldable pub has_tag : ℕ → List Token → Bool
unfolding equal_text
has_tag t fs = equal_text (get_or fs 0 []) (t ∷ [])

-- ---- a line after others

-- "First line: `G`, the gateway's domain (at most 253 bytes), its path."
unfoldable pub is_gateway_line : List Token → Bool
unfolding has_tag is_row row_of
is_gateway_line fs = has_tag 71 fs && is_row longest_gateway_domain (row_of fs)

-- "Two D rows with one domain, or two R rows with one path, letter case aside, make the later line bad."
unfoldable pub same_domain : Row → Row → Bool
unfolding same_text
same_domain r q = same_text r.domain q.domain

unfoldable pub same_path : Row → Row → Bool
unfolding agree same_text
same_path r q = agree same_text r.path q.path

unfoldable pub is_new_row : Table → List Token → Bool
unfolding has_tag is_row row_of all same_domain same_path
is_new_row t fs =
    is_row longest_row_domain (row_of fs)
    && (has_tag 68 fs && all (λ q. not (same_domain (row_of fs) q)) t.to_path
    || has_tag 82 fs && all (λ q. not (same_path (row_of fs) q)) t.to_domain)

-- a row joins the rows of its tag
unfoldable pub with_row : Table → List Token → Table
unfolding has_tag row_of
with_row t fs =
    cond (has_tag 68 fs)
    (record { gateway = t.gateway; to_path = t.to_path ++ (row_of fs ∷ []); to_domain = t.to_domain })
    (record { gateway = t.gateway; to_path = t.to_path; to_domain = t.to_domain ++ (row_of fs ∷ []) })

-- This line is bad, given the rows before it: it has no LF, is row 513, or is no new row. (An empty line has no tag.)
unfoldable pub bad_row : Table → Line → Bool
unfolding is_new_row split
bad_row t l =
    not l.ended
    || leb most_rows (length t.to_path + length t.to_domain)
    || not (is_new_row t (split 9 l.text))

-- ---- the whole text

-- what a table text comes to: the number of the first bad line, or the table
pub data TableOutcome : Type 0 where
  malformed : ℕ → TableOutcome
  well_formed : Table → TableOutcome

-- the lines from the one with the number n on, after those that made the table t
unfoldable pub read_rows : ℕ → Table → List Line → TableOutcome
unfolding bad_row with_row split
read_rows n t [] = well_formed t
read_rows n t (l ∷ ls) = cond (bad_row t l) (malformed n) (read_rows (suc n) (with_row t (split 9 l.text)) ls)

unfoldable pub gateway_table : List Token → Table
unfolding row_of
gateway_table fs = record { gateway = row_of fs; to_path = []; to_domain = [] }

unfoldable pub bad_gateway : Line → Bool
unfolding is_gateway_line split
bad_gateway l = not l.ended || not (is_gateway_line (split 9 l.text))

unfoldable pub read_lines : List Line → TableOutcome
unfolding bad_gateway read_rows gateway_table split
read_lines [] = malformed 1
read_lines (l ∷ ls) = cond (bad_gateway l) (malformed 1) (read_rows 2 (gateway_table (split 9 l.text)) ls)

-- "At most 65,536 bytes (else line 0)."
unfoldable pub loaded_from : List ℕ → TableOutcome
unfolding read_lines table_lines
loaded_from s = cond (ltb longest_table (length s)) (malformed 0) (read_lines (table_lines s))
