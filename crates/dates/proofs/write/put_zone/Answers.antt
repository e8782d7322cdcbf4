-- `dates::write::put_zone` meets its contract.
-- Assumes nothing.
use mathlib.Core.Path.{◌≡◌, ap, ◌∙◌}
use mathlib.Core.List.{◌∷◌, ◌++◌}
use Prim.Native.Nat.{◌/◌, ◌%◌}
use native.Mathlib.Omega.{arith}
use lib.IntN.{ℤ, nat_abs}
use Rattle.chars.proofs.Laws.Write.{wrote_as, wrote-length, wrote_then}
use Rattle.dates.specs.Write.{sign_of, two, zone_text}
use Rattle.dates.proofs.Laws.Offset.{plain, quot_abs, quot_fits, quot_plain, rem_abs, rem_plain}
use Rattle.dates.proofs.Laws.Written.{two-length}
use Rattle.dates.proofs.write.put_zone.Goals as goal

pub nonzero_div-hours : goal.nonzero_div-hours
nonzero_div-hours c = (omega arith, quot_fits c.args.offset c.requires.offset_bound)

pub nonzero_rem-minutes : goal.nonzero_rem-minutes
nonzero_rem-minutes c = (omega arith, quot_fits c.args.offset c.requires.offset_bound)

pub put_two-requires : goal.put_two-requires
put_two-requires c =
    omega (arith, wrote-length c.put-from.ensures, wrote-length c.put_two-next.ensures, two-length c.unsigned_abs.result)

pub returns : goal.returns
unfolding zone_text
returns c =
    let z = c.args.offset in
    let h = c.requires.offset_bound in
    let sign = c.sign_of-sign in
    let first = c.unsigned_abs in
    let last = c.unsigned_abs-2 in
    let e0 : sign.result ≡ sign_of z = sign.ensures ∙ ap (λ (v : ℤ). sign_of v) (plain z h) in
    let e1 : first.result ≡ nat_abs z / 60 = first.ensures.value ∙ ap nat_abs (quot_plain z h) ∙ quot_abs z in
    let e2 : last.result ≡ nat_abs z % 60 = last.ensures.value ∙ ap nat_abs (rem_plain z h) ∙ rem_abs z in
    let e : (sign.result ∷ two first.result) ++ two last.result ≡ zone_text z = rw (e0, e1, e2) in
    wrote_as ((sign.result ∷ two first.result) ++ two last.result) (zone_text z) e
    (wrote_then (wrote_then c.put-from.ensures c.put_two-next.ensures) c.put_two.ensures)
