-- `router_line::line::place_answer` meets its contract.
-- Assumes nothing.
use mathlib.Core.Path.{◌≡◌}
use Prim.Native.Nat.{◌+◌, ◌-◌, ◌≤◌}
use native.Mathlib.Omega.{arith}
use lib.ListN.{drop, length, take}
use Rattle.chars.proofs.Laws.Write.{wrote-within}
use Rattle.table_load.specs.Tables.{table_answer}
use Rattle.table_load.proofs.Laws.Ready.{read_formed}
use Rattle.router_line.specs.Line.{answer_room}
use Rattle.router_line.proofs.Laws.Line.{answer-length}
use borrow.Author.Rules.{rules}
use Rattle.router_line.proofs.line.place_answer.Goals as goal

pub overflow_add-result : goal.overflow_add-result
overflow_add-result c =
    let a = c.args in
    let fits = answer-length (table_answer a.read.now) a.line.now (read_formed a.read.now) in
    let room : a.at + answer_room ≤ length a.out.now = search rules in
    omega (arith, fits, room, c.answer_line-n.ensures.moved)

pub returns : goal.returns
returns c =
    let a = c.args in
    let fits = answer-length (table_answer a.read.now) a.line.now (read_formed a.read.now) in
    let part : length (take (a.at + answer_room - a.at) (drop a.at a.out.now)) ≡ answer_room = search rules in
    let room : a.at + answer_room ≤ length a.out.now = search rules in
    let n = c.answer_line-n in (
      wrote-within a.at (a.at + answer_room - a.at) n.ensures (omega (arith, fits, part)) c.requires,
      omega (arith, fits, room, n.ensures.moved),
    )
