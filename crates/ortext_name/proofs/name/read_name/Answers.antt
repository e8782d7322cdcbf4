-- `ortext_name::name::read_name` meets its contract: the pieces of the name by their places.
-- Assumes nothing.
use mathlib.Core.Path.{◌≡◌, sym, ap, ◌∙◌}
use Prim.Native.Nat.{ℕ, ◌-◌}
use mathlib.Core.List.{List}
use Rattle.ortext_name.specs.Name.{initials_of}
use native.Mathlib.Omega.{arith}
use lib.ListN.{length, drop, length-drop, take}
use Rattle.chars.proofs.Laws.Seq.{rest_of}
use Rattle.ortext_name.specs.Places.{NameReading}
use Rattle.ortext_name.proofs.Laws.Name.{given-fits, initials_fit, name_found, name_none}
use Rattle.ortext_name.proofs.name.read_name.Goals as goal

-- the initials are counted from where the given name ends
counted : (s : List ℕ) (from : ℕ) {n : ℕ} → n ≡ length (initials_of (take (length s - from) (drop from s))) → n ≡ length (initials_of (drop from s))
counted s from e = e ∙ ap (λ (t : List ℕ). length (initials_of t)) (rest_of from s)

pub overflow_mul-surname : goal.overflow_mul-surname
overflow_mul-surname c =
    let s = c.args.s.now in
    omega (arith, (counted s c.after_given-from.result c.count_initials-initials.ensures), given-fits s, length-drop c.after_given-from.result s, initials_fit (drop c.after_given-from.result s))

pub overflow_add-surname : goal.overflow_add-surname
overflow_add-surname c =
    let s = c.args.s.now in
    omega (arith, (counted s c.after_given-from.result c.count_initials-initials.ensures), given-fits s, length-drop c.after_given-from.result s, initials_fit (drop c.after_given-from.result s))

pub returns-then-s-surname : goal.returns-then-s-surname
unfolding NameReading
returns-then-s-surname c =
    sym (name_none c.args.s.now c.after_given-from.result c.count_initials-initials.result c.after_given-from.ensures (counted c.args.s.now c.after_given-from.result c.count_initials-initials.ensures) (omega arith))

pub slice_bounds-count_initials-count : goal.slice_bounds-count_initials-count
slice_bounds-count_initials-count c = omega (arith, c.after_given-from.ensures, given-fits c.args.s.now)

pub slice_bounds-count_initials-start : goal.slice_bounds-count_initials-start
slice_bounds-count_initials-start c = omega (arith, c.after_given-from.ensures, given-fits c.args.s.now)

pub returns : goal.returns
unfolding NameReading
returns c =
    let f = c.after_given-from in
    record {
      reads = sym (name_found c.args.s.now f.result c.count_initials-initials.result f.ensures (counted c.args.s.now c.after_given-from.result c.count_initials-initials.ensures) _ c.saturating_sub.ensures (omega arith));
      given = omega arith;
      initials = omega arith;
      surname = omega arith;
    }
