-- `ortext_build::build::add_initials` meets its contract.
-- Assumes nothing.
use mathlib.Core.Path.{◌≡◌, sym, ap, ◌∙◌}
use mathlib.Core.List.{List, [], ◌∷◌, ◌++◌}
use Prim.Native.Nat.{ℕ, ◌*◌, ◌≤◌}
use native.Mathlib.Omega.{arith}
use lib.ListN.{length, take, drop, length-drop}
use lib.Seq.{take_at}
use Rattle.oraddr.specs.Bounds.{I}
use Rattle.ortext_build.specs.Adding.{add_singles, start}
use Rattle.ortext_name.specs.Places.{letters_at}
use Rattle.ortext_name.proofs.Laws.Name.{length_letters}
use Rattle.ortext_build.proofs.Laws.Adding.{single_long}
use Rattle.ortext_build.proofs.build.add_initials.Goals as goal

pub returns-then-n-gt-ROOM : goal.returns-then-n-gt-ROOM
returns-then-n-gt-ROOM c =
    let t = c in let a = t.args in let v = letters_at a.n (drop a.from a.text.now) in c.refused.ensures ∙ single_long a.rec I v (omega arith) (omega (arith, length_letters a.n (drop a.from a.text.now) (rw length-drop (omega arith))))

-- the initials at the front of the buffer are as many as asked for
part : (n : ℕ) (s rest letters : List ℕ) → 2 * n ≤ length s → letters ≡ letters_at n s ++ rest → (take n letters ≡ letters_at n s) × (length (letters_at n s) ≡ n)
part n s rest letters h e = let k = length_letters n s h in (ap (take n) e ∙ take_at (letters_at n s) rest n k, k)

pub slice_bounds-add_value-end : goal.slice_bounds-add_value-end
slice_bounds-add_value-end c =
    let a = c.args in
    let p = part a.n (drop a.from a.text.now) _ _ (rw length-drop (omega arith)) c.put_initials.ensures in
    sym (ap length p.0 ∙ p.1)

pub returns : goal.returns
returns c =
    let a = c.args in
    let p = part a.n (drop a.from a.text.now) _ _ (rw length-drop (omega arith)) c.put_initials.ensures in
    c.add_value.ensures ∙ ap (λ t. add_singles I (t ∷ []) (start a.rec)) p.0
