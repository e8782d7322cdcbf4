-- `dates::write::write_utc` meets its contract.
-- Assumes nothing.
use native.Mathlib.Omega.{arith}
use Prim.Native.Nat.{◌≤◌}
use mathlib.Core.Path.{sym, subst, ap}
use lib.IntN.{ℤ, nat_abs}
use Rattle.chars.proofs.Laws.Write.{wrote_as, wrote-length, wrote_then}
use Rattle.date_read.specs.Date.{most_offset}
use Rattle.dates.specs.Write.{two, utc_text, zone_text, utc_second_text}
use Rattle.dates.proofs.Laws.Bounds.{bounds}
use Rattle.dates.proofs.Laws.Offset.{plain}
use Rattle.dates.proofs.Laws.Written.{two-length, utc_day_length, utc_second_length}
use mathlib.Core.List.{◌++◌}
use mir.Syntax.{w32}
use mir.Val.{of_z, to_z}
use Rattle.dates.proofs.write.write_utc.Goals as goal

pub put_two-b-requires : goal.put_two-b-requires
put_two-b-requires c =
    let d = c.args.d in
    omega (arith, utc_day_length d.year d.month d.day, wrote-length c.put_utc_day-a.ensures)

pub put_two-c-requires : goal.put_two-c-requires
put_two-c-requires c =
    let d = c.args.d in
    omega (arith, utc_day_length d.year d.month d.day, wrote-length c.put_utc_day-a.ensures, two-length d.hour, wrote-length c.put_two-b.ensures)

pub put_utc_second-e-requires : goal.put_utc_second-e-requires
put_utc_second-e-requires c =
    let d = c.args.d in
    omega (
      arith,
      utc_day_length d.year d.month d.day,
      wrote-length c.put_utc_day-a.ensures,
      two-length d.hour,
      wrote-length c.put_two-b.ensures,
      two-length d.minute,
      wrote-length c.put_two-c.ensures,
    )

pub put_zone-requires : goal.put_zone-requires
put_zone-requires c =
    let d = c.args.d in record {
      offset_bound = subst (λ (v : ℤ). nat_abs v ≤ most_offset) (sym (plain d.offset (bounds d c.requires.d_value).offset))
          (bounds d c.requires.d_value).offset;
      at_in_bounds = omega (
        arith,
        utc_day_length d.year d.month d.day,
        wrote-length c.put_utc_day-a.ensures,
        two-length d.hour,
        wrote-length c.put_two-b.ensures,
        two-length d.minute,
        wrote-length c.put_two-c.ensures,
        utc_second_length d.second,
        wrote-length c.put_utc_second-e.ensures,
      );
    }

pub returns : goal.returns
unfolding utc_text
returns c =
    let d = c.args.d in
    let front = two d.year ++ two d.month ++ two d.day ++ two d.hour ++ two d.minute ++ utc_second_text d.second in
    wrote_as (front ++ zone_text (to_z w32 (of_z w32 d.offset))) (utc_text d)
    (ap (λ (v : ℤ). front ++ zone_text v) (plain d.offset (bounds d c.requires.d_value).offset))
    (wrote_then (wrote_then (wrote_then (wrote_then c.put_utc_day-a.ensures c.put_two-b.ensures) c.put_two-c.ensures) c.put_utc_second-e.ensures) c.put_zone.ensures)
