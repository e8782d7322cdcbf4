-- Document 01, step 1 of "Address to record" and the row part of "Record to address": the longest row whose key begins a list of
-- tokens, resolving a domain, and extending a row's domain.
-- Assumes nothing.
use Rattle.std.specs.Prelude.{ℕ, Bool, cond, List, [], ◌∷◌}
use Rattle.std.proofs.Math.Option.{Option}
use Rattle.chars.specs.Case.{same_text}
use Rattle.chars.specs.Domain.{is_domain_part}
use Rattle.mailaddr.specs.Domain.{parts_of}
use Rattle.table.specs.Table.{Row, Token}
use Rattle.table_lookup.specs.Begins.{begins_by, look_by, resolve_by}

-- the first list begins the second, token by token, case aside; the empty token is an omitted or an absent level
abbrev pub begins : List Token → List Token → Bool
begins ps qs = begins_by same_text ps qs

-- A row by its key: the domain's parts from the right, or the path.
abbrev pub RowKey : Type 0
RowKey = Row → List Token

abbrev pub by_domain : RowKey
by_domain r = parts_of r.domain

abbrev pub by_path : RowKey
by_path r = r.path

-- the row with the longest key that begins the query
abbrev pub look : RowKey → List Row → List Token → Option Row
look key rows q = look_by same_text key rows q

-- "Otherwise find the D row with the longest domain that is a tail of it by whole parts": the levels that a domain settles
abbrev pub resolve : List Row → List ℕ → Option (List Token)
resolve rows d = resolve_by same_text by_domain by_path rows (parts_of d)

-- "Later levels go in front of its domain while present and domain parts; the first that is not stops this." (The empty token is
-- no domain part.)
unfoldable pub extension : List Token → List Token
unfolding is_domain_part
extension [] = []
extension (l ∷ ls) = cond (is_domain_part l) (l ∷ extension ls) []
