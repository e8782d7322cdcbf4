-- `router_line::line::map_line` meets its contract.
-- Assumes nothing.
use Rattle.std.proofs.Common.{ap, ◌∙◌}
use Rattle.chars.proofs.Laws.Write.{wrote_as}
use Rattle.oraddr.specs.View.{view}
use Rattle.ortext_segments.specs.Keys.{keys}
use Rattle.ortext_write.specs.Write.{record_text}
use Rattle.table_load.specs.Tables.{table_of}
use Rattle.mapping.specs.ToRecord.{to_record}
use Rattle.router_line.specs.Line.{done_line, record_line, refused_line}
use Rattle.router_line.proofs.Laws.Line.{record_canonical, record_done, record_not}
use Rattle.router_line.proofs.line.map_line.Goals as goal

pub put_record-requires : goal.put_record-requires
put_record-requires c =
    let a = c.args in
    record {
      dst_len = c.requires;
      canonical = record_canonical (table_of a.table.now) a.s.now c.in-Ok.rec ((rw c.in-Ok.is at c.map_address.ensures) ∙ c.of.ensures a.s.now) a.table.now.formed;
    }

pub returns-in-Ok : goal.returns-in-Ok
returns-in-Ok c =
    let a = c.args in
    let t = table_of a.table.now in
    wrote_as (done_line (record_text keys (view c.in-Ok.rec))) (record_line (to_record t a.s.now)) (record_done t a.s.now c.in-Ok.rec ((rw c.in-Ok.is at c.map_address.ensures) ∙ c.of.ensures a.s.now))
    c.put_record.ensures

pub returns-in-Err : goal.returns-in-Err
returns-in-Err c =
    let a = c.args in
    let t = table_of a.table.now in
    wrote_as (refused_line c.number.result) (record_line (to_record t a.s.now))
    (ap refused_line c.number.ensures.value ∙ record_not t a.s.now c.in-Err.refusal ((rw c.in-Err.is at c.map_address.ensures) ∙ c.of.ensures a.s.now))
    c.put_refusal.ensures
