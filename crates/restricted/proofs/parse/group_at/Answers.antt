-- `restricted::parse::group_at` meets its contract.
-- Assumes nothing.
use mathlib.Core.Path.{sym, ◌∙◌}
use Prim.Native.Nat.{◌+◌}
use native.Mathlib.Omega.{arith}
use lib.ListN.{drop, get_or}
use Rattle.chars.proofs.Laws.Seq.{front-there}
use Rattle.restricted.proofs.Laws.Parse.{group_plain, group_space, parse_other}
use Rattle.restricted.proofs.parse.group_at.Goals as goal

pub returns-then-is_plain : goal.returns-then-is_plain
returns-then-is_plain c =
    let a = c.args in
    let s = a.s.now in
    rw (front-there s a.at (omega arith))
    (group_plain (get_or s a.at 0) (drop (a.at + 1) s) (sym c.is_plain.ensures ∙ c.if-is_plain.true))

pub returns-in-95 : goal.returns-in-95
returns-in-95 c =
    let a = c.args in
    let s = a.s.now in
    rw (front-there s a.at (omega arith)) (group_space (get_or s a.at 0) (drop (a.at + 1) s) c.in-95.is)

pub returns-in_default : goal.returns-in_default
returns-in_default c =
    let a = c.args in
    let s = a.s.now in
    rw (front-there s a.at (omega arith))
    (parse_other (get_or s a.at 0) (drop (a.at + 1) s) (sym c.is_plain.ensures ∙ c.if-is_plain.false) (λ q. omega arith) (λ q. omega arith))
