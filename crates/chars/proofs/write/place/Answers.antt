-- `chars::write::place` meets its contract.
-- Assumes nothing.
use mathlib.Core.Path.{◌≡◌, sym, ◌∙◌}
use native.Mathlib.Omega.{arith}
use lib.ListN.{length}
use Rattle.chars.proofs.Laws.Write.{placed_fits, placed_short, wrote-front}
use Rattle.chars.proofs.write.place.Goals as goal

pub returns-then-out-text-clause-size : goal.returns-then-out-text-clause-size
returns-then-out-text-clause-size c = sym (placed_short c.args.text.now c.args.out.now (omega arith)).0

pub returns-then-out-text-clause-buffer : goal.returns-then-out-text-clause-buffer
returns-then-out-text-clause-buffer c = sym (placed_short c.args.text.now c.args.out.now (omega arith)).1

pub returns-clause-size : goal.returns-clause-size
returns-clause-size c =
    let n : c.put.result ≡ length c.args.text.now = omega (arith, c.put.ensures.moved) in
    rw n (sym (placed_fits c.args.text.now c.args.out.now (omega arith)).0)

pub returns-clause-buffer : goal.returns-clause-buffer
returns-clause-buffer c = wrote-front c.put.ensures (omega arith) ∙ sym (placed_fits c.args.text.now c.args.out.now (omega arith)).1
