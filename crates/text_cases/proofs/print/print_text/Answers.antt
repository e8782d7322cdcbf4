-- `text_cases::print::print_text` is safe: there is room for the text of a canonical record.
-- Assumes nothing.
use mathlib.Core.Path.{sym}
use native.Mathlib.Omega.{arith}
use lib.Seq.{length-take-le}
use Rattle.oraddr.specs.View.{view}
use Rattle.oraddr.proofs.Laws.Canonical.{canonical-view}
use Rattle.ortext_write.proofs.Laws.Write.{text_bound}
use Rattle.text_cases.proofs.print.print_text.Goals as goal

pub write_text-n-requires : goal.write_text-n-requires
write_text-n-requires c =
    let r = c.args.rec in
    let l = text_bound (view r) (canonical-view r c.requires) 0 in
    omega (arith, l)

pub slice_bounds-out-end : goal.slice_bounds-out-end
slice_bounds-out-end c =
    let r = c.args.rec in
    let l = text_bound (view r) (canonical-view r c.requires) 0 in
    omega (arith, l, c.write_text-n.ensures.moved)

pub slice_bounds-say-end : goal.slice_bounds-say-end
slice_bounds-say-end c =
    let r = c.args.rec in
    let l = text_bound (view r) (canonical-view r c.requires) 0 in
    let w = c.write_text-n in
    sym (length-take-le w.result w.new.dst (omega (arith, l, w.ensures.moved)))
