-- What the check's candidates are, and what its judgements say.
-- Assumes nothing.
use Rattle.std.specs.Prelude.{◌≡◌, ◌⊎◌, true, false, ℕ, ◌+◌, ◌≤◌, length, get_or, Result, Ok, Err, MatchResult}
use mathlib.Core.List.{List, [], ◌++◌, Memᴰ}
use Rattle.chars.specs.Lists.{bytes}
use Rattle.oraddr.specs.Add.{add_single}
use Rattle.oraddr.specs.Bounds.{S, level_count}
use Rattle.oraddr.specs.View.{empty_record}
use Rattle.oraddr.specs.declared.record.Record.{Record}
use Rattle.mailaddr.specs.Domain.{parts_of}
use Rattle.table.specs.Table.{Row, Table, Token}
use Rattle.table.specs.Lines.{TableOutcome, malformed, well_formed}
use Rattle.table_settle.specs.Settle.{add_levels, begun}
use Rattle.soundness.specs.Fits.{fits}
use Rattle.soundness.specs.Folded.{domain_row, fold_tokens, token_table}
use Rattle.soundness.specs.Sound.{Sound, Witness}
use Rattle.soundness.specs.declared.answers.CheckRefusal.{CheckRefusal}
use Rattle.soundness.specs.declared.answers.CheckRefusal.TheVariants.{Malformed, Unsound}
use Rattle.soundness.specs.Tokens.{Back, Tried, fits_from, pad}

-- a record with the surname Lee, so that it is no carrier
unfoldable pub with_surname : Record → Record
unfolding add_single bytes
with_surname r = (add_single r S (bytes "Lee")).record'

-- the record of levels, and that name
unfoldable pub candidate_of : List Token → Record
unfolding with_surname add_levels
candidate_of ts = with_surname (add_levels 0 ts (begun empty_record)).record'

-- The first candidates of an R row come back: the levels of its path; with a fresh PRMD where it has two fields; with a fresh O where it
-- omits PRMD and ends there.
pub record FirstBack (t : Table) (r : Row) : Type 0 where
  pub plain : 3 ≤ length r.path → Back (token_table t) (pad (domain_row r).key)
  pub two : length r.path ≡ 2 → Tried (token_table t) (domain_row r) false
  pub bare : length r.path ≡ 3 → get_or r.path 2 [] ≡ [] → Tried (token_table t) (domain_row r) true

-- The second candidate of an R row and a target's domain comes back, where the domain lies under the row's and its parts can be levels.
abbrev pub SecondBack : Table → Row → List ℕ → Type 0
SecondBack t r d =
    (z : List Token) → fold_tokens (parts_of d) ≡ (domain_row r).val ++ z → 1 ≤ length z → length (domain_row r).key + length z ≤ level_count
    → fits_from fits (length (domain_row r).key) z ≡ true → Back (token_table t) (pad ((domain_row r).key ++ z))

-- What a judgement says: that what was judged holds; or a witness.
abbrev pub Judged : Table → Type 0 → Result Unit Record → Type 0
Judged t P c = MatchResult c (λ _. P) (Witness t)

-- all first candidates, and all second ones
abbrev pub AllFirst : Table → Type 0
AllFirst t = (r : Row) → Memᴰ r t.to_domain → FirstBack t r

pub record AllUnder (t : Table) (r : Row) : Type 0 where
  pub gateway : SecondBack t r t.gateway.domain
  pub rows : (b : Row) → Memᴰ b t.to_path → SecondBack t r b.domain

abbrev pub AllSecond : Table → Type 0
AllSecond t = (r : Row) → Memᴰ r t.to_domain → AllUnder t r

-- document 01's number for each answer of the check, the line, and the witness
abbrev pub check_number : Result Unit CheckRefusal → ℕ
check_number (Ok _) = 0
check_number (Err (Unsound r)) = 8
check_number (Err (Malformed l)) = 7

abbrev pub check_line : Result Unit CheckRefusal → ℕ
check_line (Ok _) = 0
check_line (Err (Unsound r)) = 0
check_line (Err (Malformed l)) = l

abbrev pub check_record : Result Unit CheckRefusal → Record
check_record (Ok _) = empty_record
check_record (Err (Unsound r)) = r
check_record (Err (Malformed l)) = empty_record

-- What a caller gets of the check: the number, the line with 7 (else 0), a witness with 8 (else an empty record).
pub record CheckResult : Type 0 where
  pub number : ℕ
  pub line : ℕ
  pub record' : Record

abbrev pub told_check : Result Unit CheckRefusal → CheckResult
told_check c = record { number = check_number c; line = check_line c; record' = check_record c }

-- 7, "the table is malformed": "number of the first bad line; empty record"
pub record IsMalformed (n : ℕ) (o : CheckResult) : Type 0 where
  pub number : o.number ≡ 7
  pub line : o.line ≡ n
  pub empty : o.record' ≡ empty_record

-- 0, "done": an empty record, and every canonical record that is no carrier comes back
pub record IsAccepted (t : Table) (o : CheckResult) : Type 0 where
  pub number : o.number ≡ 0
  pub line : o.line ≡ 0
  pub empty : o.record' ≡ empty_record
  pub sound : Sound t

-- 8, "well formed, but unsound": "a witness record"
pub record IsRefused (t : Table) (o : CheckResult) : Type 0 where
  pub number : o.number ≡ 8
  pub line : o.line ≡ 0
  pub witness : Witness t o.record'

-- Demand 3, of what a table text comes to. (A sound table has no witness, so each number is given exactly when it is said.)
abbrev pub Demand3 : TableOutcome → CheckResult → Type 0
Demand3 (malformed n) o = IsMalformed n o
Demand3 (well_formed t) o = IsAccepted t o ⊎ IsRefused t o
