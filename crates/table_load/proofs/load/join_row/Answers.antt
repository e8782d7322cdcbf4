-- `table_load::load::join_row` meets its contract: the row is put into the order of those that have its key, where that is new.
-- Assumes nothing.
use Rattle.table_load.proofs.Laws.Load.{joining-domain, joining-path}
use Rattle.table_load.proofs.load.join_row.Goals as goal

pub returns-in-Domain : goal.returns-in-Domain
returns-in-Domain c =
    let a = c.args in
    let p = c.requires in
    rw (c.in-Domain.is, c.then_some.ensures)
    (joining-domain a.text.now a.to_path.now a.to_domain.now a.table p.kept p.to_domain_bound a.row c.add_if_new-is_new.result c.add_if_new-is_new.ensures)

pub returns-in-Path : goal.returns-in-Path
returns-in-Path c =
    let a = c.args in
    let p = c.requires in
    rw (c.in-Path.is, c.then_some-in-Path.ensures)
    (joining-path a.text.now a.to_path.now a.to_domain.now a.table p.kept p.to_domain_bound a.row
    c.add_if_new-is_new-in-Path.result c.add_if_new-is_new-in-Path.ensures)
