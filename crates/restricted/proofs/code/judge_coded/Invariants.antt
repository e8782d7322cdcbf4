-- `restricted::code::judge_coded` meets its contract. The loop's invariant: no byte over 127 has come, and what is left of the room is what
-- the coded form has used of it.
-- Assumes nothing.
use Prim.Native.Nat.{◌+◌}
use mathlib.Core.Path.{◌≡◌}
use lib.ListN.{length, drop}
use Rattle.chars.specs.Class.{is_char}
use Rattle.chars.specs.Lists.{all}
use Rattle.restricted.specs.Code.{coded}
use Rattle.restricted.proofs.code.judge_coded.Given as goal

abbrev pub invariant-loop-i : goal.invariant-loop-i
invariant-loop-i l =
    record {
      chars : all is_char l.s ≡ all is_char (drop l.i l.s);
      used : length (coded l.s) + l.left ≡ l.room + length (coded (drop l.i l.s));
    }
