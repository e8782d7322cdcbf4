-- `router_line::line::answer_tagged` meets its contract.
-- Assumes nothing.
use Rattle.std.proofs.Common.{arith}
use Rattle.table_load.specs.Tables.{table_answer}
use Rattle.chars.proofs.Laws.Write.{wrote_as}
use Rattle.mapping.specs.ToRecord.{to_record_by}
use Rattle.router_line.specs.Line.{record_line, refused_line, tagged_line, text_line}
use Rattle.router_line.proofs.Laws.Line.{tagged_address, tagged_other, tagged_text}
use Rattle.router_line.proofs.line.answer_tagged.Goals as goal

pub returns-in-65 : goal.returns-in-65
returns-in-65 c =
    let a = c.args in
    let l = table_answer a.read.now in
    wrote_as (record_line (to_record_by l a.s.now)) (tagged_line l a.tag a.s.now) (tagged_address l a.s.now a.tag c.in-65.is) c.answer_address.ensures

pub returns-in-79 : goal.returns-in-79
returns-in-79 c =
    let a = c.args in
    let l = table_answer a.read.now in
    wrote_as (text_line l a.s.now) (tagged_line l a.tag a.s.now) (tagged_text l a.s.now a.tag (λ e. omega arith) c.in-79.is) c.answer_text.ensures

pub returns-in_default : goal.returns-in_default
returns-in_default c =
    let a = c.args in
    let l = table_answer a.read.now in
    wrote_as (refused_line 1) (tagged_line l a.tag a.s.now) (tagged_other l a.s.now a.tag (λ e. omega arith) (λ e. omega arith)) c.put_refusal.ensures
