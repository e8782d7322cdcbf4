-- `dates::write::put_utc_day` meets its contract.
-- Assumes nothing.
use native.Mathlib.Omega.{arith}
use Rattle.chars.proofs.Laws.Write.{wrote-length, wrote_then}
use Rattle.dates.proofs.Laws.Written.{two-length}
use Rattle.dates.proofs.write.put_utc_day.Goals as goal

pub put_two-b-requires : goal.put_two-b-requires
put_two-b-requires c =
    omega (arith, two-length c.args.d.year, wrote-length c.put_two-a.ensures)

pub put_two-requires : goal.put_two-requires
put_two-requires c =
    omega (arith, two-length c.args.d.year, two-length c.args.d.month, wrote-length c.put_two-a.ensures, wrote-length c.put_two-b.ensures)

pub returns : goal.returns
returns c =
    wrote_then (wrote_then c.put_two-a.ensures c.put_two-b.ensures) c.put_two.ensures
