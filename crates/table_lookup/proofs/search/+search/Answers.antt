-- `table_lookup::search::search` meets its contract. How many keys are left falls.
-- Assumes nothing.
use mathlib.Core.Path.{◌≡◌}
use mathlib.Core.List.{List}
use Prim.Native.Nat.{ℕ, suc, ◌-◌, ◌<◌}
use native.Mathlib.Omega.{arith}
use lib.ListN.{length}
use Rattle.table_order.specs.Place.{PlaceFound}
use Rattle.table_order.specs.Ranks.{query_of, ranks_of}
use Rattle.table_order.proofs.Laws.Compare.{by_length, shared-length}
use Rattle.table_order.proofs.Laws.Insert.{key_reached, ordered-less, ranks_rise}
use Rattle.std.specs.Prelude.{None}
use Rattle.table_lookup.specs.Search.{Whole, WholeFront, closed_key}
use Rattle.table_lookup.proofs.Laws.Front.{found-whole, go_on, nothing-under, nothing-whole}
use Rattle.table_lookup.proofs.search.+search.Goals as goal

pub returns-then-at-eq0 : goal.returns-then-at-eq0
unfolding closed_key
returns-then-at-eq0 t c =
    let a = c.args in
    let K : ℕ → List ℕ = ranks_of a.rows.now in
    let q : List ℕ = query_of a.rows.now a.query.now in
    let p = c.place_key-place.result in
    let f : PlaceFound K a.rows.now.n q p = c.place_key-place.ensures in
    nothing-under K a.rows.now.n q (ranks_rise a.rows.now.ordered) p f c.if-at-eq0.true

pub whole_front-requires : goal.whole_front-requires
whole_front-requires t c =
    let a = c.args in
    let K : ℕ → List ℕ = ranks_of a.rows.now in
    let q : List ℕ = query_of a.rows.now a.query.now in
    let p = c.place_key-place.result in
    let f : PlaceFound K a.rows.now.n q p = c.place_key-place.ensures in
    omega (arith, f.beside (p.at - 1) (omega arith), (shared-length (K (p.at - 1)) q).1, by_length a.rows.now.key a.query.now)

pub returns-in_err-k : goal.returns-in_err-k
unfolding closed_key
returns-in_err-k t c =
    let a = c.args in
    let K : ℕ → List ℕ = ranks_of a.rows.now in
    let q : List ℕ = query_of a.rows.now a.query.now in
    let p = c.place_key-place.result in
    let f : PlaceFound K a.rows.now.n q p = c.place_key-place.ensures in
    let w : Whole q p.shared None = c.in_err-k.ensures in
    let z : suc (p.at - 1) ≡ p.at = omega arith in
    rw c.from_residual.ensures (nothing-whole K a.rows.now.n q (ranks_rise a.rows.now.ordered) p f (p.at - 1) z w)

pub key_size-requires : goal.key_size-requires
key_size-requires t c =
    let a = c.args in
    let K : ℕ → List ℕ = ranks_of a.rows.now in
    let q : List ℕ = query_of a.rows.now a.query.now in
    let p = c.place_key-place.result in
    let f : PlaceFound K a.rows.now.n q p = c.place_key-place.ensures in
    let l : p.at - 1 < a.rows.now.n = omega (arith, f.most) in
    (key_reached (p.at - 1) a.rows.now.ordered l).0

pub returns-then-key_size-k : goal.returns-then-key_size-k
unfolding closed_key
returns-then-key_size-k t c =
    let a = c.args in
    let K : ℕ → List ℕ = ranks_of a.rows.now in
    let q : List ℕ = query_of a.rows.now a.query.now in
    let p = c.place_key-place.result in
    let f : PlaceFound K a.rows.now.n q p = c.place_key-place.ensures in
    let k = c.in_ok-k.k in
    let w : WholeFront q p.shared k = c.in_ok-k.ensures in
    let z : suc (p.at - 1) ≡ p.at = omega arith in
    let l : p.at - 1 < a.rows.now.n = omega (arith, f.most) in
    let h = key_reached (p.at - 1) a.rows.now.ordered l in
    let e : length (K (p.at - 1)) ≡ k = omega (arith, h.1, c.key_size.ensures, c.if-key_size-k.true) in
    found-whole K a.rows.now.n q (ranks_rise a.rows.now.ordered) p f (p.at - 1) z k w e

pub front_of-rest-requires : goal.front_of-rest-requires
front_of-rest-requires t c =
    let a = c.args in
    let K : ℕ → List ℕ = ranks_of a.rows.now in
    let q : List ℕ = query_of a.rows.now a.query.now in
    let p = c.place_key-place.result in
    let f : PlaceFound K a.rows.now.n q p = c.place_key-place.ensures in
    let k = c.in_ok-k.k in
    let w : WholeFront q p.shared k = c.in_ok-k.ensures in
    omega (arith, w.within, f.beside (p.at - 1) (omega arith), (shared-length (K (p.at - 1)) q).1, by_length a.rows.now.key a.query.now)

pub invariant_of-before : goal.invariant_of-before
invariant_of-before t c =
    let a = c.args in
    let f : PlaceFound (ranks_of a.rows.now) a.rows.now.n (query_of a.rows.now a.query.now) c.place_key-place.result = c.place_key-place.ensures in
    record { ordered = ordered-less (c.place_key-place.result.at - 1) (omega (arith, f.most)) a.rows.now.ordered }

pub returns : goal.returns
unfolding closed_key
returns t c =
    let a = c.args in
    let K : ℕ → List ℕ = ranks_of a.rows.now in
    let q : List ℕ = query_of a.rows.now a.query.now in
    let p = c.place_key-place.result in
    let f : PlaceFound K a.rows.now.n q p = c.place_key-place.ensures in
    let k = c.in_ok-k.k in
    let w : WholeFront q p.shared k = c.in_ok-k.ensures in
    let z : suc (p.at - 1) ≡ p.at = omega arith in
    let l : p.at - 1 < a.rows.now.n = omega (arith, f.most) in
    let h = key_reached (p.at - 1) a.rows.now.ordered l in
    let off : length (K (p.at - 1)) ≡ k → ⊥ = λ e. c.if-key_size-k.false (omega (arith, h.1, c.key_size.ensures)) in
    go_on K a.rows.now.n q (ranks_rise a.rows.now.ordered) p f (p.at - 1) z k w off c.search.result
    (rw c.front_of-rest.ensures at c.search.ensures)
