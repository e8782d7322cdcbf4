-- `dates::write::put_date_day` meets its contract.
-- Assumes nothing.
use native.Mathlib.Omega.{arith}
use Rattle.chars.proofs.Laws.Write.{wrote-length, wrote_then}
use Rattle.dates.proofs.Laws.Bounds.{bounds}
use Rattle.date_read.proofs.Laws.Month.{month_length}
use Rattle.dates.proofs.Laws.Written.{two-length}
use Rattle.dates.proofs.write.put_date_day.Goals as goal

pub put-b-requires : goal.put-b-requires
put-b-requires c =
    omega (arith, two-length c.args.d.day, wrote-length c.put_two-a.ensures)

pub put_month-c-requires : goal.put_month-c-requires
put_month-c-requires c = record {
  le_month = (bounds c.args.d c.requires.d_value).month;
  at_in_bounds = omega (arith, two-length c.args.d.day, wrote-length c.put_two-a.ensures, wrote-length c.put-b.ensures);
}

pub put_behind-requires : goal.put_behind-requires
put_behind-requires c =
    let d = c.args.d in
    let m = (bounds d c.requires.d_value).month in
    omega (
      arith,
      two-length d.day,
      wrote-length c.put_two-a.ensures,
      wrote-length c.put-b.ensures,
      month_length d.month m.0 m.1,
      wrote-length c.put_month-c.ensures,
    )

pub returns : goal.returns
returns c =
    wrote_then (wrote_then (wrote_then c.put_two-a.ensures c.put-b.ensures) c.put_month-c.ensures) c.put_behind.ensures
