-- `orroute::step` meets its contract: what a read put behind what waits is within the buffer.
-- Assumes nothing.
use Rattle.std.proofs.Common.{◌-◌, ◌≤◌, length, take, arith}
use borrow.Author.Rules.{rules}
use borrow.Rule.Slice.PartMut.{post_of}
use Rattle.table_load.specs.Tables.{table_answer}
use Rattle.orroute.proofs.Laws.Run.{stepped}
use Rattle.orroute.proofs.step.Goals as goal

pub returns : goal.returns
returns c =
    let a = c.args in
    let s = a.input.now in
    let read : c.in_ok-n.n ≤ length s - a.left.size = search rules in
    let k : c.in_ok-n.n ≤ length c.read_some.new.buf = omega (arith, read, c.read_some.auto.buf) in
    let l = table_answer a.read.now in
    let rest = post_of a.left.size (length s - a.left.size) s in
    stepped l a.left.over s c.read_some.new.buf rest a.left.size c.in_ok-n.n (omega (arith, c.requires.size_le_longest_line)) k c.answer.result
    (λ w. take w.size c.answer.new.input) c.answer.ensures
