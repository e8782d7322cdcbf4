-- `dates::write::write_date` meets its contract.
-- Assumes nothing.
use mathlib.Core.Path.{sym, ap, subst}
use mathlib.Core.List.{[], ◌∷◌, ◌++◌}
use Prim.Native.Nat.{◌-◌, ◌≤◌}
use native.Mathlib.Omega.{arith}
use lib.IntN.{ℤ, nat_abs}
use lib.ListN.{get_or}
use mir.Syntax.{w32}
use mir.Val.{of_z, to_z}
use Rattle.chars.proofs.Laws.Write.{wrote_as, wrote-length, wrote_then}
use Rattle.date_read.specs.Date.{most_offset}
use Rattle.date_read.specs.Read.{month_names}
use Rattle.dates.specs.Write.{date_second_text, date_text, two, zone_text}
use Rattle.dates.proofs.Laws.Bounds.{bounds}
use Rattle.dates.proofs.Laws.Offset.{plain}
use Rattle.dates.proofs.Laws.Written.{behind-length, date_day_length, date_second_length}
use Rattle.dates.proofs.write.write_date.Goals as goal

pub put_behind-b-requires : goal.put_behind-b-requires
put_behind-b-requires c =
    let d = c.args.d in
    omega (arith, date_day_length d c.requires.d_value, wrote-length c.put_date_day-a.ensures)

pub put_behind-c-requires : goal.put_behind-c-requires
put_behind-c-requires c =
    let d = c.args.d in
    omega (
      arith,
      date_day_length d c.requires.d_value,
      wrote-length c.put_date_day-a.ensures,
      behind-length 32 d.hour,
      wrote-length c.put_behind-b.ensures,
    )

pub put_date_second-e-requires : goal.put_date_second-e-requires
put_date_second-e-requires c =
    let d = c.args.d in
    omega (
      arith,
      date_day_length d c.requires.d_value,
      wrote-length c.put_date_day-a.ensures,
      behind-length 32 d.hour,
      wrote-length c.put_behind-b.ensures,
      behind-length 58 d.minute,
      wrote-length c.put_behind-c.ensures,
    )

pub put-f-requires : goal.put-f-requires
put-f-requires c =
    let d = c.args.d in
    omega (
      arith,
      date_day_length d c.requires.d_value,
      wrote-length c.put_date_day-a.ensures,
      behind-length 32 d.hour,
      wrote-length c.put_behind-b.ensures,
      behind-length 58 d.minute,
      wrote-length c.put_behind-c.ensures,
      date_second_length d.second,
      wrote-length c.put_date_second-e.ensures,
    )

pub put_zone-requires : goal.put_zone-requires
put_zone-requires c =
    let d = c.args.d in record {
      offset_bound = subst (λ (v : ℤ). nat_abs v ≤ most_offset) (sym (plain d.offset (bounds d c.requires.d_value).offset))
          (bounds d c.requires.d_value).offset;
      at_in_bounds = omega (
        arith,
        date_day_length d c.requires.d_value,
        wrote-length c.put_date_day-a.ensures,
        behind-length 32 d.hour,
        wrote-length c.put_behind-b.ensures,
        behind-length 58 d.minute,
        wrote-length c.put_behind-c.ensures,
        date_second_length d.second,
        wrote-length c.put_date_second-e.ensures,
        wrote-length c.put-f.ensures,
      );
    }

pub returns : goal.returns
unfolding date_text
returns c =
    let d = c.args.d in
    let front = two d.day ++ (32 ∷ []) ++ get_or month_names (d.month - 1) [] ++ (32 ∷ two d.year) ++ (32 ∷ two d.hour) ++
    (58 ∷ two d.minute) ++ date_second_text d.second ++ (32 ∷ []) in
    wrote_as (front ++ zone_text (to_z w32 (of_z w32 d.offset))) (date_text d)
    (ap (λ (v : ℤ). front ++ zone_text v) (plain d.offset (bounds d c.requires.d_value).offset))
    (wrote_then (wrote_then (wrote_then (wrote_then
    (wrote_then c.put_date_day-a.ensures c.put_behind-b.ensures) c.put_behind-c.ensures) c.put_date_second-e.ensures) c.put-f.ensures) c.put_zone.ensures)
