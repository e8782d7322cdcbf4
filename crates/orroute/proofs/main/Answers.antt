-- `orroute::main` meets its contract.
-- Assumes nothing.
use mathlib.Core.Path.{sym}
use lib.Seq.{length-take-le}
use Rattle.orroute.proofs.main.Goals as goal

pub slice_bounds-answer_under-end : goal.slice_bounds-answer_under-end
slice_bounds-answer_under-end c =
    let r = c.read_table-n in
    sym (length-take-le r.result r.new.buf r.ensures)
