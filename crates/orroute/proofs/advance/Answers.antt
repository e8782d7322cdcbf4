-- `orroute::advance` meets its contract.
-- Assumes nothing.
use mathlib.Core.Path.{sym}
use native.Mathlib.Omega.{arith}
use lib.Seq.{length-take-le}
use Rattle.table_load.specs.Tables.{table_answer}
use Rattle.table_load.proofs.Laws.Ready.{read_formed}
use Rattle.orroute.proofs.Laws.Run.{advanced}
use Rattle.orroute.proofs.advance.Goals as goal

pub slice_bounds-route-end-2 : goal.slice_bounds-route-end-2
slice_bounds-route-end-2 c =
    sym (length-take-le c.args.size c.args.input.now c.requires.size_in_bounds)

pub overflow_sub-size : goal.overflow_sub-size
overflow_sub-size c =
    let h = c.requires.size_in_bounds in
    omega (arith, c.route-done.ensures.went.within, length-take-le c.args.size c.args.input.now h)

pub shift-requires : goal.shift-requires
shift-requires c =
    let h = c.requires.size_in_bounds in
    omega (arith, c.route-done.ensures.went.within, length-take-le c.args.size c.args.input.now h)

pub returns : goal.returns
returns c =
    let r = c.route-done in
    let a = c.args in
    let l = table_answer a.read.now in
    let shift = c.shift in
    advanced {l = l} a.input.now shift.new.buf a.size (read_formed a.read.now) c.requires.size_in_bounds r.ensures c.requires.answer_room_in_bounds shift.ensures
