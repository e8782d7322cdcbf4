-- `rowlist::spread` meets its contract: the entries that are laid out one after the other are read back.
-- Assumes nothing.
use Rattle.std.proofs.Common.{◌≡◌, ◌/◌, length, refl, arith}
use Rattle.rowlist.proofs.Laid.{laid_out, laid_one_more, laid-read}
use Rattle.rowlist.proofs.Lesser.{lesser-fits}
use Rattle.rowlist.proofs.spread.Goals as goal

pub loop-i-init : goal.loop-i-init
unfolding laid_out
loop-i-init c = refl

pub loop-i-preserved : goal.loop-i-preserved
loop-i-preserved c = cc (laid_one_more c.args.rows.now c.args.numbers.now c.loop-i.i)

pub returns : goal.returns
returns c =
    let fits = lesser-fits (length c.args.rows.now) (length c.args.numbers.now / 5) in
    let all : c.loop-i.i ≡ c.how_many-n.result = omega arith in
    let at_n : c.loop-i.numbers ≡ laid_out c.args.rows.now c.args.numbers.now c.how_many-n.result = cc in
    (rw at_n (laid-read c.args.rows.now c.args.numbers.now c.how_many-n.result (omega arith) (omega arith)), (c.how_many-n.ensures, omega arith))
