-- `text_cases::print::print_local` is safe: there is room for the local part of a canonical record.
-- Assumes nothing.
use mathlib.Core.Path.{sym}
use native.Mathlib.Omega.{arith}
use lib.Seq.{length-take-le}
use Rattle.oraddr.specs.View.{view}
use Rattle.oraddr.proofs.Laws.Canonical.{canonical-view}
use Rattle.ortext_write.proofs.Laws.Write.{local_bound}
use Rattle.text_cases.proofs.print.print_local.Goals as goal

pub write_local-n-requires : goal.write_local-n-requires
write_local-n-requires c =
    let r = c.args.rec in
    let l = local_bound (view r) (canonical-view r c.requires) c.args.from in
    omega (arith, l)

pub slice_bounds-out-end : goal.slice_bounds-out-end
slice_bounds-out-end c =
    let r = c.args.rec in
    let l = local_bound (view r) (canonical-view r c.requires) c.args.from in
    omega (arith, l, c.write_local-n.ensures.moved)

pub slice_bounds-say-end-2 : goal.slice_bounds-say-end-2
slice_bounds-say-end-2 c =
    let r = c.args.rec in
    let l = local_bound (view r) (canonical-view r c.requires) c.args.from in
    let w = c.write_local-n in
    sym (length-take-le w.result w.new.dst (omega (arith, l, w.ensures.moved)))
