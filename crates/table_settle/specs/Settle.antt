-- Document 01, "Address to record" step 1: the record of the levels that a domain settles, or why there is none.
-- Assumes nothing.
use Rattle.std.specs.Prelude.{ℕ, zero, suc, ◌+◌, cond, List, [], ◌∷◌, ltb, eqb, length, take, Result, Ok, Err}
use Rattle.std.proofs.Math.Option.{Option, none, some}
use Rattle.chars.specs.Case.{same_text}
use Rattle.chars.specs.Lists.{non_empty}
use Rattle.mailaddr.specs.Domain.{parts_of}
use Rattle.oraddr.specs.Add.{Outcome, add_single, add_unit}
use Rattle.oraddr.specs.View.{empty_record}
use Rattle.oraddr.specs.declared.record.Record.{Record}
use Rattle.table.specs.Table.{Row, Token}
use Rattle.table_lookup.specs.Begins.{resolve_by}
use Rattle.table_lookup.specs.Lookup.{resolve}
use Rattle.table_settle.specs.declared.settle.Settlement.{Settlement}
use Rattle.table_settle.specs.declared.settle.Unsettled.{Unsettled}
use Rattle.table_settle.specs.declared.settle.Unsettled.TheVariants.{NoRow, PastUnits, PastBound}
use Rattle.oraddr.specs.Bounds.{level_count}

-- a record before an addition
abbrev pub begun : Record → Outcome
begun r = record { number = 0; record' = r }

-- a token at level k: an attribute that a record has once, or a unit; an omitted level adds nothing
unfoldable pub add_level : ℕ → Token → Record → Outcome
unfolding non_empty add_single add_unit
add_level k t r = cond (non_empty t) (cond (ltb k 4) (add_single r k t) (add_unit r t)) (begun r)

-- the tokens at the levels from k on, unless an addition was refused
unfoldable pub add_levels : ℕ → List Token → Outcome → Outcome
unfolding add_level
add_levels k [] o = o
add_levels k (t ∷ ts) o = add_levels (suc k) ts (cond (eqb o.number 0) (add_level k t o.record') o)

-- what step 1 comes to: no row matches; the parts left over pass OU4; one of them passes a bound; or so many levels are settled, and
-- the record has them
pub data Settling : Type 0 where
  no_row : Settling
  past_units : Settling
  past_bound : Settling
  settled : ℕ → Record → Settling

unfoldable pub settled_as : ℕ → Outcome → Settling
settled_as n o = cond (eqb o.number 0) (settled n o.record') past_bound

unfoldable pub settled_from : Option (List Token) → Settling
unfolding settled_as add_levels
settled_from none = no_row
settled_from (some ts) =
    cond (ltb level_count (length ts)) past_units
    (settled_as (length ts) (add_levels 0 ts (begun empty_record)))

-- the levels that a domain settles, by the rows alone
unfoldable pub settling : List Row → List ℕ → Settling
unfolding settled_from resolve_by same_text parts_of
settling rows d = settled_from (resolve rows d)

-- where the level behind each level of a path would start, the first starting at a place
unfoldable pub nexts_from : ℕ → List Token → List ℕ
nexts_from at [] = []
nexts_from at (t ∷ ts) = suc (at + length t) ∷ nexts_from (suc (at + length t)) ts

-- the parts that a domain has before the part that starts at a place, the rightmost first
unfoldable pub left_parts : List ℕ → ℕ → List Token
unfolding parts_of
left_parts d zero = []
left_parts d (suc n) = parts_of (take n d)

-- what the code's answer says
abbrev pub settlement_answer : Result Settlement Unsettled → Settling
settlement_answer (Ok s) = settled s.levels s.«record»
settlement_answer (Err NoRow) = no_row
settlement_answer (Err PastUnits) = past_units
settlement_answer (Err PastBound) = past_bound
