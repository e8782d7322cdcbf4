-- `restricted::parse::behind_hash` meets its contract.
-- Assumes nothing.
use mathlib.Core.Path.{sym, ◌∙◌}
use Prim.Native.Nat.{◌+◌}
use mathlib.Core.Bool.{and-false}
use native.Mathlib.Omega.{arith}
use borrow.Author.Tests.{lt-leb, ne_eqb}
use lib.ListN.{drop, get_or}
use lib.Seq.{get_or-drop}
use Rattle.chars.specs.Class.{highest_code}
use Rattle.chars.specs.Digits.{spelt_character, three_digits}
use Rattle.chars.proofs.Laws.Digits.{character_none, character_some}
use Rattle.restricted.proofs.Laws.Parse.{group_number, group_short, parse-none}
use Rattle.restricted.proofs.parse.behind_hash.Goals as goal

pub returns-in-Some : goal.returns-in-Some
returns-in-Some c =
    let e = c.in-Some.ensures.value in
    rw e (group_short (drop c.args.at c.args.s.now) (λ q. omega (arith, e, c.in-Some.ensures.there)))

pub returns-then-byte_at-ne35 : goal.returns-then-byte_at-ne35
returns-then-byte_at-ne35 c =
    let a = c.args in
    let s = a.s.now in
    parse-none (drop a.at s) (sym c.in_default.ensures.value)
    (rw (get_or-drop a.at s 3 0, ne_eqb (get_or s (a.at + 3) 0) 35 (λ q. c.if-byte_at-ne35.true (c.byte_at.ensures ∙ q))))

pub returns-in_err-char : goal.returns-in_err-char
unfolding spelt_character
returns-in_err-char c =
    let s = drop c.args.at c.args.s.now in
    rw c.from_residual.ensures
    (parse-none s (sym c.in_default.ensures.value)
    (rw (lt-leb (three_digits s) highest_code (character_none s c.in_err-char.ensures), and-false)))

pub returns : goal.returns
unfolding spelt_character
returns c =
    let a = c.args in
    let s = a.s.now in
    let k = character_some (drop a.at s) c.in_ok-char.char c.in_ok-char.ensures in
    rw k.0
    (group_number (drop a.at s) (sym c.in_default.ensures.value)
    (get_or-drop a.at s 3 0 ∙ sym c.byte_at.ensures ∙ c.if-byte_at-ne35.false) k.1)
