-- `ortext_name::name::put_initials` meets its contract. The loop's invariant: the letters left, stored, give all of them stored.
-- Assumes nothing.
use mathlib.Core.Path.{◌≡◌, sym, ◌∙◌}
use Prim.Native.Nat.{◌-◌}
use native.Mathlib.Nat.{zero-add}
use native.Mathlib.Numerals.{add-one}
use native.Mathlib.Omega.{arith}
use lib.ListN.{length, drop, length-drop, length-set}
use lib.Seq.{sets-eq}
use Rattle.ortext_name.specs.Places.{letters_at}
use Rattle.ortext_name.proofs.Laws.Name.{length_letters, letters_more}
use Rattle.ortext_name.proofs.name.put_initials.Goals as goal

pub loop-i-preserved : goal.loop-i-preserved
loop-i-preserved c =
    let l = c.loop-i in
    let a = c.args in
    (length-set l.dst l.i _ ∙ l.invariant.0, l.invariant.1 ∙ rw (letters_more a.s.now a.from a.n l.i (omega arith) (omega arith), add-one l.i))

pub returns : goal.returns
unfolding letters_at
returns c =
    let l = c.loop-i in
    let a = c.args in
    let t = letters_at a.n (drop a.from a.s.now) in
    let k : length t ≡ a.n = length_letters a.n (drop a.from a.s.now) (rw length-drop (omega arith)) in
    let i : a.n - l.i ≡ 0 = omega arith in
    sym (l.invariant.1 ∙ rw i) ∙ sets-eq t a.dst.now 0 (omega arith) ∙ rw (zero-add, k)
