-- `router::run::answer_rest` meets its contract.
-- Assumes nothing.
use mathlib.Core.Path.{◌≡◌, ap, subst}
use mathlib.Core.List.{List}
use Prim.Native.Nat.{ℕ, ◌+◌, ◌-◌, ◌<◌}
use native.Mathlib.Omega.{arith}
use lib.ListN.{length, take, drop, length-drop}
use lib.Seq.{take_all}
use Rattle.table_load.specs.Tables.{table_answer}
use Rattle.chars.proofs.Laws.Write.{wrote_as}
use Rattle.router_line.specs.Line.{line_answer}
use Rattle.router.proofs.Laws.Run.{rest-full, routing-rest}
use Rattle.router.proofs.run.answer_rest.Goals as goal

-- all that is left
rest_is : (at : ℕ) (s : List ℕ) → take (length s - at) (drop at s) ≡ drop at s
rest_is at s = take_all (length s - at) (drop at s) (omega (arith, length-drop at s))

pub returns-in-Some : goal.returns-in-Some
returns-in-Some c last k =
    let a = c.args in
    let l = table_answer a.read.now in
    let s = a.input.now in
    let q = c.in-Some.ensures in
    routing-rest a.over a.at a.written c.in-Some.n a.out.now c.place_answer.new.out c.requires.at_in_bounds c.requires.input_value
    c.requires.over_value k
    (wrote_as (line_answer l (take (length s - a.at) (drop a.at s))) (line_answer l (drop a.at s)) (ap (line_answer l) (rest_is a.at s)) q.0)
    q.1

pub returns-in-None : goal.returns-in-None
returns-in-None c last k =
    let a = c.args in
    let l = table_answer a.read.now in
    let s = a.input.now in
    let q = c.in-None.ensures in
    rest-full a.at a.written a.out.now c.place_answer.new.out c.requires.at_in_bounds c.requires.input_value c.requires.written_in_bounds q.0
    (subst (λ (t : List ℕ). length a.out.now < a.written + length (line_answer l t)) (rest_is a.at s) q.1)
