-- `restricted::code::coding_of` meets its contract: each arm is computed, and what is left has no short form.
-- Assumes nothing.
use mathlib.Core.Path.{◌≡◌, refl, sym, ◌∙◌}
use mathlib.Core.Bool.{true, false}
use native.Mathlib.Omega.{arith}
use Rattle.std.proofs.lemmas.Grind.{common_steps}
use Rattle.chars.specs.Class.{is_char}
use Rattle.chars.specs.Lists.{bytes, member}
use Rattle.restricted.specs.Answers.{spelled}
use Rattle.restricted.specs.Code.{code_char, is_control, is_plain, letter_in, letter_of, short}
use Rattle.restricted.proofs.Laws.Code.{differs}
use Rattle.restricted.proofs.code.coding_of.Goals as goal

equals_plain : is_plain 61 ≡ true
unfolding is_plain is_char is_control bytes member
equals_plain = refl

slash_plain : is_plain 47 ≡ true
unfolding is_plain is_char is_control bytes member
slash_plain = refl

pub returns-then-is_plain : goal.returns-then-is_plain
unfolding spelled code_char
returns-then-is_plain c = rw (sym c.is_plain.ensures ∙ c.if-is_plain.true)

pub returns-in-32 : goal.returns-in-32
unfolding spelled code_char is_plain is_char is_control bytes member letter_of letter_in short
returns-in-32 c = rw c.in-32.is

pub returns-in-95 : goal.returns-in-95
unfolding spelled code_char is_plain is_char is_control bytes member letter_of letter_in short
returns-in-95 c = rw c.in-95.is

pub returns-in-40 : goal.returns-in-40
unfolding spelled code_char is_plain is_char is_control bytes member letter_of letter_in short
returns-in-40 c = rw c.in-40.is

pub returns-in-41 : goal.returns-in-41
unfolding spelled code_char is_plain is_char is_control bytes member letter_of letter_in short
returns-in-41 c = rw c.in-41.is

pub returns-in-44 : goal.returns-in-44
unfolding spelled code_char is_plain is_char is_control bytes member letter_of letter_in short
returns-in-44 c = rw c.in-44.is

pub returns-in-58 : goal.returns-in-58
unfolding spelled code_char is_plain is_char is_control bytes member letter_of letter_in short
returns-in-58 c = rw c.in-58.is

pub returns-in-92 : goal.returns-in-92
unfolding spelled code_char is_plain is_char is_control bytes member letter_of letter_in short
returns-in-92 c = rw c.in-92.is

pub returns-in-35 : goal.returns-in-35
unfolding spelled code_char is_plain is_char is_control bytes member letter_of letter_in short
returns-in-35 c = rw c.in-35.is

pub returns-in_default : goal.returns-in_default
unfolding spelled code_char bytes letter_of letter_in short
returns-in_default c =
    let e : is_plain c.args.b ≡ false = sym c.is_plain.ensures ∙ c.if-is_plain.false in
    grind (arith, common_steps, e, differs c.args.b 61 e equals_plain, differs c.args.b 47 e slash_plain)
