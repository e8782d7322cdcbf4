-- `router_line::line::place_apart` meets its contract.
-- Assumes nothing.
use mathlib.Core.Path.{sym, subst}
use mathlib.Core.List.{List}
use Prim.Native.Nat.{ℕ}
use native.Mathlib.Omega.{arith}
use lib.Seq.{length-take-le}
use Rattle.chars.proofs.Laws.Write.{wrote-length, wrote_taken}
use Rattle.table_load.specs.Tables.{table_answer}
use Rattle.table_load.proofs.Laws.Ready.{read_formed}
use Rattle.router_line.specs.Ready.{Placed}
use Rattle.router_line.proofs.Laws.Line.{answer-length}
use Rattle.router_line.proofs.line.place_apart.Goals as goal

pub slice_bounds-answer-end : goal.slice_bounds-answer-end
slice_bounds-answer-end c =
    let a = c.args in
    let fits = answer-length (table_answer a.read.now) a.line.now (read_formed a.read.now) in
    let n = c.answer_line-n in
    omega (arith, fits, n.ensures.moved, wrote-length n.ensures)

pub slice_bounds-place-end : goal.slice_bounds-place-end
slice_bounds-place-end c =
    let a = c.args in
    let fits = answer-length (table_answer a.read.now) a.line.now (read_formed a.read.now) in
    let n = c.answer_line-n in
    sym (length-take-le n.result n.new.dst (omega (arith, fits, n.ensures.moved, wrote-length n.ensures)))

pub returns : goal.returns
returns c =
    let a = c.args in
    let fits = answer-length (table_answer a.read.now) a.line.now (read_formed a.read.now) in
    subst (λ (s : List ℕ). Placed a.out.now a.at s c.place.result c.place.new.out)
    (wrote_taken c.answer_line-n.ensures (omega (arith, fits)))
    c.place.ensures
