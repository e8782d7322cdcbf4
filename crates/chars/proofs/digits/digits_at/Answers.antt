-- `chars::digits::digits_at` meets its contract: where it answers none, no three digits stand there.
-- Assumes nothing.
use mathlib.Core.Bool.{and-false}
use mathlib.Core.Logic.{⊎_elim}
use Rattle.std.proofs.Common.{length, length-drop, ◌<◌, arith, drop, get_or, sym, true, false, ◌≡◌, ◌∙◌}
use Rattle.chars.specs.Class.{is_digit}
use Rattle.chars.proofs.Laws.Seq.{rest_of}
use Rattle.chars.proofs.Laws.Digits.{digits-none, digits-short, spelt_three, value_none, value_some}
use Rattle.chars.proofs.digits.digits_at.Goals as goal

pub returns-in_err-get : goal.returns-in_err-get
returns-in_err-get c =
    let past : length c.args.s.now < c.args.at = ⊎_elim (λ h. h) (λ h. absurd (omega arith)) c.in_err-get.ensures.lookup.0 in
    let h : length (drop c.args.at c.args.s.now) < 3 = omega (arith, length-drop c.args.at c.args.s.now) in
    rw c.from_residual.ensures (sym (digits-short (drop c.args.at c.args.s.now) h))

pub returns-in_default : goal.returns-in_default
returns-in_default c =
    let t = c.in_ok-get.field-0.now in
    let e : t ≡ drop c.args.at c.args.s.now = c.in_ok-get.ensures.lookup.0.2 ∙ rest_of c.args.at c.args.s.now in
    sym (rw e at (digits-short t c.in_default.len_below))

pub returns-in_err-digit_value : goal.returns-in_err-digit_value
returns-in_err-digit_value c =
    let t = c.in_ok-get.field-0.now in
    let e : t ≡ drop c.args.at c.args.s.now = c.in_ok-get.ensures.lookup.0.2 ∙ rest_of c.args.at c.args.s.now in
    let a : is_digit (get_or t 0 0) ≡ false = value_none _ c.in_err-digit_value.ensures.value in
    rw c.from_residual-in_err-digit_value.ensures (sym (rw e at (digits-none t (rw a))))

pub returns-in_err-digit_value-2 : goal.returns-in_err-digit_value-2
returns-in_err-digit_value-2 c =
    let t = c.in_ok-get.field-0.now in
    let e : t ≡ drop c.args.at c.args.s.now = c.in_ok-get.ensures.lookup.0.2 ∙ rest_of c.args.at c.args.s.now in
    let a : is_digit (get_or t 0 0) ≡ true = (value_some _ _ c.in_ok-digit_value.ensures.value).0 in
    let b : is_digit (get_or t 1 0) ≡ false = value_none _ c.in_err-digit_value-2.ensures.value in
    rw c.from_residual-in_err-digit_value-2.ensures (sym (rw e at (digits-none t (rw (a, b)))))

pub returns-in_err-digit_value-3 : goal.returns-in_err-digit_value-3
returns-in_err-digit_value-3 c =
    let t = c.in_ok-get.field-0.now in
    let e : t ≡ drop c.args.at c.args.s.now = c.in_ok-get.ensures.lookup.0.2 ∙ rest_of c.args.at c.args.s.now in
    let d : is_digit (get_or t 2 0) ≡ false = value_none _ c.in_err-digit_value-3.ensures.value in
    rw c.from_residual-in_err-digit_value-3.ensures (sym (rw e at (digits-none t (rw (d, and-false)))))

pub returns : goal.returns
returns c =
    let t = c.in_ok-get.field-0.now in
    let e : t ≡ drop c.args.at c.args.s.now = c.in_ok-get.ensures.lookup.0.2 ∙ rest_of c.args.at c.args.s.now in
    sym (rw e at (spelt_three t _ _ _ c.in_ok-digit_value.ensures.value c.in_ok-digit_value-2.ensures.value c.in_ok-digit_value-3.ensures.value))
