-- `orroute::shift` meets its contract.
-- Assumes nothing.
use mathlib.Core.Path.{◌≡◌, ap, ◌∙◌}
use Prim.Native.Nat.{ℕ, ◌+◌}
use native.Mathlib.Omega.{arith}
use lib.ListN.{length, drop, get_or, set}
use lib.Seq.{paste, paste-zero}
use Rattle.orroute.proofs.Laws.Moved.{moved_length, moved_step}
use mathlib.Core.List.{List}
use Rattle.orroute.proofs.shift.Goals as goal

pub loop-i-init : goal.loop-i-init
loop-i-init c =
    let a = c.args in
    paste-zero a.buf.now 0 (drop a.from a.buf.now)

pub bounds-buf-from : goal.bounds-buf-from
bounds-buf-from c =
    let l = c.loop-i in
    omega (arith, ap length l.invariant, moved_length c.args.buf.now c.args.from c.args.n l.i c.requires (omega arith), c.requires)

pub bounds-buf-i : goal.bounds-buf-i
bounds-buf-i c =
    let l = c.loop-i in
    omega (arith, ap length l.invariant, moved_length c.args.buf.now c.args.from c.args.n l.i c.requires (omega arith), c.requires)

pub loop-i-preserved : goal.loop-i-preserved
loop-i-preserved c =
    let l = c.loop-i in
    let a = c.args in
    let step = moved_step a.buf.now a.from a.n l.i c.requires (omega arith) in
    ap (λ (b : List ℕ). set b l.i (get_or b (a.from + l.i) 0)) l.invariant ∙ step

pub shape_of-buf : goal.shape_of-buf
shape_of-buf c =
    let l = c.loop-i in
    ap length l.invariant ∙ moved_length c.args.buf.now c.args.from c.args.n l.i c.requires (omega arith)

pub returns : goal.returns
returns c =
    let l = c.loop-i in
    let a = c.args in
    let e : l.i ≡ a.n = omega arith in
    l.invariant ∙ ap (paste a.buf.now 0 (drop a.from a.buf.now)) e
