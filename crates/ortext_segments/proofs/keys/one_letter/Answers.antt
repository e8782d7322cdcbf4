-- `ortext_segments::keys::one_letter` meets its contract: each arm is an entry of the table, and any other letter is none.
-- Assumes nothing.
use mathlib.Core.Path.{◌≡◌, sym, ◌∙◌}
use Rattle.std.proofs.Common.{◌≢◌}
use borrow.Author.Tests.{ne_eqb}
use native.Mathlib.Omega.{arith}
use Prim.Native.Nat.{ℕ}
use lib.Dec.{eqb}
use mathlib.Core.Bool.{false}
use mathlib.Core.List.{[], ◌∷◌}
use Rattle.chars.specs.Lists.{bytes}
use Rattle.chars.specs.Case.{agree, fold_case, same_byte, same_text}
use Rattle.ortext_segments.specs.Keys.{key_number, keys}
use Rattle.ortext_segments.proofs.Laws.KeyLengths.{no_key, some_key, no_letter}
use Rattle.ortext_segments.proofs.keys.one_letter.Goals as goal

pub returns-in-99 : goal.returns-in-99
unfolding key_number keys same_text agree same_byte bytes
returns-in-99 c =
    some_key (c.args.x ∷ []) _
    (rw (sym c.fold_case.ensures ∙ c.in-99.is))
    (omega arith)

pub returns-in-111 : goal.returns-in-111
unfolding key_number keys same_text agree same_byte bytes
returns-in-111 c =
    some_key (c.args.x ∷ []) _
    (rw (sym c.fold_case.ensures ∙ c.in-111.is))
    (omega arith)

pub returns-in-115 : goal.returns-in-115
unfolding key_number keys same_text agree same_byte bytes
returns-in-115 c =
    some_key (c.args.x ∷ []) _
    (rw (sym c.fold_case.ensures ∙ c.in-115.is))
    (omega arith)

pub returns-in-103 : goal.returns-in-103
unfolding key_number keys same_text agree same_byte bytes
returns-in-103 c =
    some_key (c.args.x ∷ []) _
    (rw (sym c.fold_case.ensures ∙ c.in-103.is))
    (omega arith)

pub returns-in-105 : goal.returns-in-105
unfolding key_number keys same_text agree same_byte bytes
returns-in-105 c =
    some_key (c.args.x ∷ []) _
    (rw (sym c.fold_case.ensures ∙ c.in-105.is))
    (omega arith)

pub returns-in_default : goal.returns-in_default
returns-in_default c =
    no_key (c.args.x ∷ [])
    (let x = c.args.x in
    let letter = c.fold_case.result in
    let other : (l : ℕ) → letter ≢ l → eqb l (fold_case x) ≡ false = λ l h. ne_eqb l (fold_case x) (λ e. h (c.fold_case.ensures ∙ sym e)) in
    sym (no_letter x (other 99 (omega arith)) (other 111 (omega arith)) (other 115 (omega arith)) (other 103 (omega arith)) (other 105 (omega arith))))
