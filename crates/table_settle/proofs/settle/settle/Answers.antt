-- `table_settle::settle::settle` meets its contract.
-- Assumes nothing.
use mathlib.Core.Path.{ap, ◌∙◌}
use mathlib.Core.List.{◌++◌}
use mathlib.Core.Option.{some}
use Prim.Native.Nat.{◌-◌}
use native.Mathlib.Omega.{arith}
use lib.ListN.{length}
use Rattle.mailaddr.specs.Domain.{parts_of}
use Rattle.table.specs.Rows.{row_at}
use Rattle.table_lookup.specs.Lookup.{by_domain}
use Rattle.table_lookup.specs.Looked.{Looked}
use Rattle.table_settle.specs.Settle.{left_parts, settled_from}
use Rattle.table.specs.declared.line.Row.{Row}
use Rattle.std.specs.Prelude.{Some}
use Rattle.table_settle.proofs.Laws.Settle.{found-fits, settling-none, settling-row}
use Rattle.table_settle.proofs.settle.settle.Goals as goal

pub row_at-requires : goal.row_at-requires
row_at-requires c =
    let a = c.args in
    let h : Looked by_domain a.text.now a.rows.now a.n (parts_of a.domain.now) (Some c.in-Some.i) = c.in-Some.ensures in
    omega (arith, h.below, c.requires.inside.fits)

pub settle_row-requires : goal.settle_row-requires
settle_row-requires c =
    let a = c.args in
    let i = c.in-Some.i in
    let p = c.requires.inside in
    let h : Looked by_domain a.text.now a.rows.now a.n (parts_of a.domain.now) (Some i) = c.in-Some.ensures in
    rw c.row_at.ensures
    (record { row_inside = p.each i h.below; domain_in_bounds = found-fits a.text.now a.rows.now a.domain.now a.n p i h })

pub returns : goal.returns
returns c =
    let a = c.args in
    let d = a.domain.now in
    let i = c.in-Some.i in
    let h : Looked by_domain a.text.now a.rows.now a.n (parts_of d) (Some i) = c.in-Some.ensures in
    c.settle_row.ensures
    ∙ ap (λ (p : Row). settled_from (some ((row_at a.text.now p).path ++ left_parts d (length d - (p.domain_end - p.domain))))) c.row_at.ensures
    ∙ settling-row a.text.now a.rows.now d a.n c.requires.inside i h

pub returns-in_default : goal.returns-in_default
returns-in_default c =
    let a = c.args in
    settling-none a.text.now a.rows.now a.domain.now a.n c.in_default.ensures
