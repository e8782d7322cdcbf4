-- `cases::run::read_and_run` meets its contract: what came of the writes is what the run left.
-- Assumes nothing.
use Rattle.std.proofs.Common.{◌≡◌, OnOk, Result, Ok, Err, sym}
use Rattle.cases.proofs.run.read_and_run.Goals as goal

on_ok : {E P : Type 0} (r w : Result (Unit {0}) E) → r ≡ w → (w ≡ Ok tt → P) → OnOk r P
on_ok (Ok tt) w e f = f (sym e)
on_ok (Err x) w e f = tt

pub returns : goal.returns
returns g c = on_ok c.written.result _ c.written.ensures (λ h. (_, _, _, c.run.ensures, h))
