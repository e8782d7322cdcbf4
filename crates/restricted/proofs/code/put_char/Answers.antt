-- `restricted::code::put_char` meets its contract: what is put is what the way of coding spells.
-- Assumes nothing.
use mathlib.Core.Path.{◌≡◌, ap}
use mathlib.Core.List.{[], ◌∷◌}
use native.Mathlib.Omega.{arith}
use lib.ListN.{length}
use Rattle.restricted.specs.Answers.{spelled}
use Rattle.restricted.specs.Code.{code_char, numbered}
use Rattle.restricted.proofs.code.put_char.Goals as goal

pub put-requires : goal.put-requires
unfolding spelled
put-requires c =
    let the_single : c.in-Single.c ∷ [] ≡ code_char c.args.b = rw c.in-Single.is at c.coding_of.ensures in
    omega (arith, ap length the_single)

pub put-requires-in-Short : goal.put-requires-in-Short
unfolding spelled
put-requires-in-Short c =
    let the_short : 35 ∷ c.in-Short.letter ∷ 35 ∷ [] ≡ code_char c.args.b = rw c.in-Short.is at c.coding_of.ensures in
    omega (arith, ap length the_short)

pub put_number-requires : goal.put_number-requires
unfolding numbered spelled
put_number-requires c =
    let the_number : numbered c.args.b ≡ code_char c.args.b = rw c.in-Number.is at c.coding_of.ensures in
    omega (arith, ap length the_number)

pub returns-in-Single : goal.returns-in-Single
unfolding spelled
returns-in-Single c =
    let the_single : c.in-Single.c ∷ [] ≡ code_char c.args.b = rw c.in-Single.is at c.coding_of.ensures in
    rw (← the_single) c.put.ensures

pub returns-in-Short : goal.returns-in-Short
unfolding spelled
returns-in-Short c =
    let the_short : 35 ∷ c.in-Short.letter ∷ 35 ∷ [] ≡ code_char c.args.b = rw c.in-Short.is at c.coding_of.ensures in
    rw (← the_short) c.put-in-Short.ensures

pub returns-in-Number : goal.returns-in-Number
unfolding spelled numbered
returns-in-Number c =
    let the_number : numbered c.args.b ≡ code_char c.args.b = rw c.in-Number.is at c.coding_of.ensures in
    rw (← the_number) c.put_number.ensures
