-- `router_line::line::read_line` meets its contract.
-- Assumes nothing.
use Rattle.std.proofs.Common.{Ok, refl}
use Rattle.chars.proofs.Laws.Write.{wrote_as}
use Rattle.ortext_read.specs.Answers.{reading}
use Rattle.ortext_read.specs.Apply.{read}
use Rattle.table.specs.Lines.{well_formed}
use Rattle.table_load.specs.Tables.{table_of}
use Rattle.router_line.specs.Line.{read_line, refused_line, text_line}
use Rattle.router_line.proofs.Laws.Line.{read_as, read_not}
use Rattle.router_line.proofs.line.read_line.Goals as goal

pub returns-in-Ok : goal.returns-in-Ok
unfolding reading
returns-in-Ok c =
    let a = c.args in
    let t = table_of a.table.now in
    wrote_as (read_line t (read c.in-Ok.rec)) (text_line (well_formed t) a.s.now)
    (read_as t c.empty.result a.s.now (Ok c.in-Ok.rec) c.empty.ensures (rw c.in-Ok.is at c.read_text.ensures) (read c.in-Ok.rec) refl)
    c.send_record.ensures

pub returns-in-Err : goal.returns-in-Err
returns-in-Err c =
    let a = c.args in
    let t = table_of a.table.now in
    wrote_as (refused_line 4) (text_line (well_formed t) a.s.now)
    (read_not t c.empty.result a.s.now c.in-Err.field-0 c.empty.ensures (rw c.in-Err.is at c.read_text.ensures))
    c.put_refusal.ensures
