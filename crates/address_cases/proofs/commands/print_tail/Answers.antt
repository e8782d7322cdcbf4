-- `address_cases::commands::print_tail` is safe: the tail that two domains share is no longer than the first.
-- Assumes nothing.
use mathlib.Core.Path.{◌≡◌, sym, ap, ◌∙◌}
use Prim.Native.Nat.{◌+◌}
use native.Mathlib.Omega.{arith}
use lib.ListN.{length, length-append}
use Rattle.mailaddr.specs.Tail.{shared_tail}
use Rattle.mailaddr.proofs.Laws.Tail.{tail-suffix}
use Rattle.address_cases.proofs.commands.print_tail.Goals as goal

pub overflow_sub-a : goal.overflow_sub-a
overflow_sub-a c =
    let a = c.args.a.now in
    let b = c.args.b.now in
    let p = tail-suffix a b in
    let e : length p.0 + length (shared_tail a b) ≡ length a = sym (length-append p.0 (shared_tail a b)) ∙ ap length p.1 in
    omega (arith, ap length c.shared_tail-tail.ensures.tail)
