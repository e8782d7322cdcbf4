-- `mapping_to_address::to_address::put_fronts` meets its contract. The loop's invariant: what is left to write, from the last level down.
-- Assumes nothing.
use mathlib.Core.Path.{◌≡◌, ap, ◌∙◌}
use mathlib.Core.List.{List, [], ◌∷◌, ◌++◌}
use Prim.Native.Nat.{ℕ, ◌+◌, ◌-◌, ◌≤◌, ◌<◌}
use native.Mathlib.Omega.{arith}
use lib.ListN.{length, length-append}
use Rattle.chars.proofs.Laws.Write.{wrote-length, wrote_one, wrote_then}
use Rattle.ortext_write.proofs.Laws.Left.{Left, left_all, left_more, left_none, left_room}
use Rattle.table_lookup.specs.Looked.{tokens_from}
use Rattle.mapping.specs.Flat.{fronts}
use Rattle.mapping.proofs.Laws.Flat.{fronts-back, fronts-end, tokens-some}
use Rattle.mapping_to_address.proofs.to_address.put_fronts.Goals as goal

-- there is room for that level and its dot
fits : {o t m q : List ℕ} {a j : ℕ} (s r : List ℕ) → Left o a t m j q → q ≡ (s ++ (46 ∷ [])) ++ r → a + length t ≤ length o → j + length s < length m
fits s r l e h = omega (arith, left_room (s ++ (46 ∷ [])) r l e h, length-append s (46 ∷ []))

pub loop-i-init : goal.loop-i-init
loop-i-init c =
    let a = c.args in
    let e : a.n ≡ a.k + a.n - a.k = omega arith in
    left_all (ap fronts (tokens-some a.levels.now.bytes.now a.levels.now.ends.now a.k a.n c.requires.n_bound ∙ ap (tokens_from a.levels.now.bytes.now a.levels.now.ends.now a.k) e))

pub put-end-requires : goal.put-end-requires
put-end-requires c =
    let l = c.loop-i in
    let a = c.args in
    let e = fronts-back a.levels.now.bytes.now a.levels.now.ends.now a.k l.i (omega arith) in
    omega (arith, ap length c.level.ensures, fits _ _ l.invariant e c.requires.fronts_in_bounds)

pub bounds-dst-end : goal.bounds-dst-end
bounds-dst-end c =
    let l = c.loop-i in
    let a = c.args in
    let w = c.put-end.ensures in
    let e = fronts-back a.levels.now.bytes.now a.levels.now.ends.now a.k l.i (omega arith) in
    omega (arith, ap length c.level.ensures, fits _ _ l.invariant e c.requires.fronts_in_bounds, w.moved, wrote-length w)

pub overflow_add-next : goal.overflow_add-next
overflow_add-next c =
    let l = c.loop-i in
    let a = c.args in
    let w = c.put-end.ensures in
    let e = fronts-back a.levels.now.bytes.now a.levels.now.ends.now a.k l.i (omega arith) in
    omega (arith, ap length c.level.ensures, fits _ _ l.invariant e c.requires.fronts_in_bounds, w.moved, wrote-length w)

pub loop-i-preserved : goal.loop-i-preserved
loop-i-preserved c =
    let l = c.loop-i in
    let a = c.args in
    let e = fronts-back a.levels.now.bytes.now a.levels.now.ends.now a.k l.i (omega arith) in
    left_more l.invariant e (wrote_then (rw c.level.ensures at c.put-end.ensures) (wrote_one 46))

pub shape_of-dst : goal.shape_of-dst
shape_of-dst c = c.loop-i.invariant.same

pub returns : goal.returns
returns c =
    let at = c.loop-i in
    let a = c.args in
    left_none at.invariant (fronts-end a.levels.now.bytes.now a.levels.now.ends.now a.k at.i (omega arith))
