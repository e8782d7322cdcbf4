-- `soundness_judge::judge::judge_pair` meets its contract: a domain that does not lie under the row's, or whose parts can not be levels, asks
-- for nothing; else the candidate is what `judge` judges.
-- Assumes nothing.
use Rattle.std.proofs.Common.{Err, drop, ◌≡◌, ◌-◌, ◌++◌, true, ℕ, List, length, ap, sym, ◌∙◌, arith}
use mathlib.Core.List.{Memᴰ}
use mathlib.Core.Option.{some}
use Rattle.oraddr.specs.Canonical.{canonical_record}
use Rattle.oraddr.specs.View.{view}
use Rattle.oraddr.specs.declared.record.Record.{Record}
use Rattle.mailaddr.specs.Domain.{is_domain, parts_of}
use Rattle.table.specs.Formed.{Formed}
use Rattle.table_load.specs.Tables.{table_of}
use Rattle.table.specs.Rows.{row_at}
use Rattle.table.specs.Table.{Row, Table, Token}
use Rattle.table_settle.specs.Settle.{left_parts, settled_from, settlement_answer}
use Rattle.table_settle.specs.declared.settle.Unsettled.{Unsettled}
use Rattle.table_settle.specs.declared.settle.Unsettled.TheVariants.{NoRow, PastBound, PastUnits}
use Rattle.mapping.specs.ToAddress.{is_carrier}
use Rattle.soundness.specs.Check.{SecondBack, candidate_of}
use Rattle.soundness.specs.Sound.{comes_back}
use Rattle.soundness.proofs.Laws.Candidates.{second_back, second_bound, second_candidate, second-named, second-units}
use Rattle.soundness.proofs.Laws.Judged.{judged_then, row-length, settled-some}
use Rattle.soundness_judge.proofs.Laws.{not-under, parts-before, under_longer}
use Rattle.soundness_judge.proofs.judge.judge_pair.Goals as goal

-- levels that can not be settled ask for nothing
unsettled : (t : Table) (f : Formed t) (r : Row) (m : Memᴰ r t.to_domain) (d : List ℕ) (v : is_domain d ≡ true) (left : List Token)
    → drop (length (parts_of r.domain)) (parts_of d) ≡ left → (x : Unsettled) → settled_from (some (r.path ++ left)) ≡ settlement_answer (Err x)
    → SecondBack t r d
unsettled t f r m d v left cut NoRow e = absurd (settled-some (r.path ++ left) e)
unsettled t f r m d v left cut PastUnits e = second-units t f r m d v left cut e
unsettled t f r m d v left cut PastBound e = second_bound t f r m d v left cut e

pub returns-then-not-is_under : goal.returns-then-not-is_under
returns-then-not-is_under c =
    let a = c.args in
    not-under (table_of a.table.now) (row_at a.table.now.text.now a.row) a.domain.now
    (sym c.is_under.ensures ∙ c.if-not-is_under.true)

pub settle_row-requires-clause-domain_in_bounds : goal.settle_row-requires-clause-domain_in_bounds
settle_row-requires-clause-domain_in_bounds c =
    let a = c.args in
    omega (
      arith,
      row-length a.table.now.text.now a.row c.requires.row_of.inside,
      under_longer (row_at a.table.now.text.now a.row).domain a.domain.now (sym c.is_under.ensures ∙ c.if-not-is_under.false),
    )

pub judge-requires : goal.judge-requires
unfolding row_at
judge-requires c =
    let a = c.args in
    let t : Table = table_of a.table.now in
    let r : Row = row_at a.table.now.text.now a.row in
    let d : List ℕ = a.domain.now in
    let left : List Token = left_parts d (length d - (a.row.domain_end - a.row.domain)) in
    let q : Record = c.in-Ok.settled.«record» in
    let n : ℕ = c.in-Ok.settled.levels in
    let cut = parts-before a.table.now.text.now a.row d c.requires.row_of.inside (sym c.is_under.ensures ∙ c.if-not-is_under.false) in
    let h = sym c.in-Ok.ensures in
    let k = second_candidate t c.args.table.now.formed r c.requires.row_of.member d c.requires.domain_value left cut n q h in
    let e : c.with_surname.result ≡ candidate_of (r.path ++ left) =
    c.with_surname.ensures ∙ second-named t c.args.table.now.formed r c.requires.row_of.member d c.requires.domain_value left cut n q h in
    record { canonical = ap canonical_record e ∙ k.canonical; free = ap (λ (x : Record). is_carrier t (view x)) e ∙ k.free }

pub returns-in-Ok : goal.returns-in-Ok
unfolding row_at
returns-in-Ok c =
    let a = c.args in
    let t : Table = table_of a.table.now in
    let r : Row = row_at a.table.now.text.now a.row in
    let d : List ℕ = a.domain.now in
    let left : List Token = left_parts d (length d - (a.row.domain_end - a.row.domain)) in
    let cut = parts-before a.table.now.text.now a.row d c.requires.row_of.inside (sym c.is_under.ensures ∙ c.if-not-is_under.false) in
    judged_then t (comes_back t c.with_surname.result ≡ true) (SecondBack t r d) c.judge.result
    (λ b.
    second_back t c.args.table.now.formed r c.requires.row_of.member d c.requires.domain_value left cut c.in-Ok.settled.levels c.in-Ok.settled.«record»
    (sym c.in-Ok.ensures)
    (ap (comes_back t) (sym c.with_surname.ensures) ∙ b))
    c.judge.ensures

pub returns-in-Err : goal.returns-in-Err
unfolding row_at
returns-in-Err c =
    let a = c.args in
    let s = a.table.now.text.now in
    let d : List ℕ = a.domain.now in
    unsettled (table_of a.table.now) c.args.table.now.formed (row_at s a.row) c.requires.row_of.member d c.requires.domain_value
    (left_parts d (length d - (a.row.domain_end - a.row.domain)))
    (parts-before s a.row d c.requires.row_of.inside (sym c.is_under.ensures ∙ c.if-not-is_under.false))
    c.in-Err.field-0 (sym c.in-Err.ensures)
