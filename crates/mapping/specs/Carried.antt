-- Document 01, "Address to record": step 1 under a table, and when "the address is **carried whole**", clause by clause.
-- Assumes nothing.
use Rattle.std.specs.Prelude.{ℕ, Bool, true, false, ◌&&◌, ◌||◌, not, cond, List, ltb, length}
use Rattle.std.proofs.Math.Option.{Option, none, some}
use Rattle.chars.specs.Lists.{all, bytes, non_empty}
use Rattle.chars.specs.Case.{same_text}
use Rattle.chars.specs.Class.{is_quotable}
use Rattle.chars.specs.Spaces.{well_spaced}
use Rattle.oraddr.specs.Add.{add_dd}
use Rattle.oraddr.specs.Canonical.{canonical_record}
use Rattle.oraddr.specs.View.{empty_record}
use Rattle.oraddr.specs.declared.record.Record.{Record}
use Rattle.ortext_segments.specs.Keys.{keys, pn_key}
use Rattle.ortext_name.specs.Name.{read_name}
use Rattle.ortext_segments.specs.Segments.{Segment, read_segments}
use Rattle.ortext_read.specs.Apply.{Reading, again, has_repeated, has_unknown, named_again, pn_meets, read, read_local, refused, unread, value_at, values_at}
use Rattle.mailaddr.specs.Code.{coded}
use Rattle.mailaddr.specs.Domain.{is_domain}
use Rattle.mailaddr.specs.Shape.{Address, is_readable, unquoted_local}
use Rattle.table.specs.Table.{Table, Token}
use Rattle.table_settle.specs.Settle.{Settling, add_levels, begun, no_row, past_bound, past_units, settled, settling}
use Rattle.mapping.specs.Results.{RecordResult, mapped, refused_record}

-- ---- step 1

-- "the domain is the gateway's": the whole of it, case aside
unfoldable pub is_gateway : Table → List ℕ → Bool
unfolding same_text
is_gateway t d = same_text t.gateway.domain d

-- Step 1: "If the domain is the gateway's, no level is settled. Otherwise find the D row ..."
unfoldable pub settled_under : Table → List ℕ → Settling
unfolding is_gateway settling
settled_under t d = cond (is_gateway t d) (settled 0 empty_record) (settling t.to_path d)

-- ---- the clauses, in document 01's order

-- there is none
unfoldable pub is_none : {A : Type 0} → Option A → Bool
is_none none = true
is_none (some x) = false

-- "no D row matches and the domain is not the gateway's"
unfoldable pub is_no_row : Settling → Bool
is_no_row no_row = true
is_no_row past_units = false
is_no_row past_bound = false
is_no_row (settled n r) = false

unfoldable pub no_row_matches : Table → Address → Bool
unfolding is_no_row settled_under
no_row_matches t a = is_no_row (settled_under t a.domain)

-- "some part of the address's domain is not a *domain part*"
unfoldable pub has_other_part : Address → Bool
unfolding is_domain
has_other_part a = not (is_domain a.domain)

-- "leftover parts pass a bound"
unfoldable pub is_past_bound : Settling → Bool
is_past_bound no_row = false
is_past_bound past_units = false
is_past_bound past_bound = true
is_past_bound (settled n r) = false

unfoldable pub passes_bound : Table → Address → Bool
unfolding is_past_bound settled_under
passes_bound t a = is_past_bound (settled_under t a.domain)

-- "or OU4"
unfoldable pub is_past_units : Settling → Bool
is_past_units no_row = false
is_past_units past_units = true
is_past_units past_bound = false
is_past_units (settled n r) = false

unfoldable pub passes_units : Table → Address → Bool
unfolding is_past_units settled_under
passes_units t a = is_past_units (settled_under t a.domain)

-- "the unquoted local part is empty"
unfoldable pub is_local_empty : Address → Bool
unfolding non_empty unquoted_local
is_local_empty a = not (non_empty (unquoted_local a))

-- "has leading, trailing or adjacent spaces"
unfoldable pub has_local_spaces : Address → Bool
unfolding well_spaced unquoted_local
has_local_spaces a = not (well_spaced (unquoted_local a))

-- "or has a character outside the printable string set and `$`"
unfoldable pub has_local_other : Address → Bool
unfolding all is_quotable unquoted_local
has_local_other a = not (all is_quotable (unquoted_local a))

-- (The clauses that follow are about reading, and so about a local part that can be read: one for which none of these three holds.)

-- "both readings fail"
unfoldable pub reads_neither : Address → Bool
unfolding is_readable is_none read_segments keys read_name unquoted_local
reads_neither a =
    is_readable (unquoted_local a) && (is_none (read_segments keys (unquoted_local a)) && is_none (read_name (unquoted_local a)))

-- the local part is record text, and its segments pass the test
unfoldable pub on_segments : (List Segment → Bool) → Option (List Segment) → Bool
on_segments p none = false
on_segments p (some gs) = p gs

unfoldable pub segments_of : Address → Option (List Segment)
unfolding is_readable read_segments keys unquoted_local
segments_of a = cond (is_readable (unquoted_local a)) (read_segments keys (unquoted_local a)) none

-- "a key is unknown"
unfoldable pub names_unknown : Address → Bool
unfolding segments_of on_segments has_unknown
names_unknown a = on_segments has_unknown (segments_of a)

-- "or a key other than OU, DD and the short DD keys is repeated"
unfoldable pub names_twice : Address → Bool
unfolding segments_of on_segments has_repeated
names_twice a = on_segments has_repeated (segments_of a)

-- "or PN meets S, G, I or GQ"
unfoldable pub names_both : Address → Bool
unfolding segments_of on_segments pn_meets
names_both a = on_segments pn_meets (segments_of a)

-- "or its value is no name"
unfoldable pub is_no_name : List Segment → Bool
unfolding non_empty values_at value_at is_none read_name
is_no_name gs = non_empty (values_at pn_key gs) && is_none (read_name (value_at pn_key gs))

unfoldable pub names_no_name : Address → Bool
unfolding segments_of on_segments is_no_name
names_no_name a = on_segments is_no_name (segments_of a)

-- "a settled level other than OU is named again"
unfoldable pub again_over : Settling → Option (List Segment) → Bool
unfolding on_segments named_again
again_over no_row gs = false
again_over past_units gs = false
again_over past_bound gs = false
again_over (settled n r) gs = on_segments (named_again n) gs

unfoldable pub names_settled : Table → Address → Bool
unfolding segments_of again_over settled_under
names_settled t a = again_over (settled_under t a.domain) (segments_of a)

-- Steps 2 to 4, over what step 1 settled.
unfoldable pub read_over : Settling → List ℕ → Reading
unfolding read_local keys
read_over no_row s = unread
read_over past_units s = unread
read_over past_bound s = unread
read_over (settled n r) s = read_local keys n r s

unfoldable pub result_of : Table → Address → Reading
unfolding is_readable read_over settled_under unquoted_local
result_of t a = cond (is_readable (unquoted_local a)) (read_over (settled_under t a.domain) (unquoted_local a)) unread

-- one of the four clauses on keys holds
unfoldable pub has_key_fault : Address → Bool
unfolding names_unknown names_twice names_both names_no_name
has_key_fault a = names_unknown a || names_twice a || names_both a || names_no_name a

-- "or the result is not canonical (a fifth unit or DD included)": a record that is not, or an addition on the way to it refused
-- where no clause on keys holds
unfoldable pub is_other : Bool → Reading → Bool
unfolding canonical_record
is_other fault unread = false
is_other fault refused = not fault
is_other fault again = false
is_other fault (read r) = not (canonical_record r)

unfoldable pub is_not_canonical : Table → Address → Bool
unfolding is_other has_key_fault result_of
is_not_canonical t a = is_other (has_key_fault a) (result_of t a)

-- document 01: "The address is **carried whole** exactly when"
unfoldable pub carried_whole : Table → Address → Bool
unfolding no_row_matches has_other_part passes_bound passes_units is_local_empty has_local_spaces has_local_other reads_neither names_unknown names_twice names_both names_no_name names_settled is_not_canonical
carried_whole t a =
    no_row_matches t a
    || has_other_part a
    || passes_bound t a
    || passes_units t a
    || is_local_empty a
    || has_local_spaces a
    || has_local_other a
    || reads_neither a
    || names_unknown a
    || names_twice a
    || names_both a
    || names_no_name a
    || names_settled t a
    || is_not_canonical t a

-- ---- carrying

-- the longest coded form, the bound of a DD's value
abbrev pub longest_coded : ℕ
longest_coded = 128

-- the type of the DD that carries an address
abbrev pub carrier_type : List ℕ
unfolding bytes
carrier_type = bytes "RFC-822"

-- "It then becomes the gateway's path with one DD, type RFC-822, whose value codes the whole text". The levels to carry it under
-- are an argument.
unfoldable pub carrier_of : List Token → List ℕ → Record
unfolding add_dd add_levels coded
carrier_of ls s = (add_dd (add_levels 0 ls (begun empty_record)).record' carrier_type (coded s)).record'

-- 3, "it must be carried whole and its coded form is over 128 characters"
unfoldable pub carrying : List Token → List ℕ → RecordResult
unfolding refused_record mapped carrier_of coded
carrying ls s = cond (ltb longest_coded (length (coded s))) (refused_record 3) (mapped (carrier_of ls s))
