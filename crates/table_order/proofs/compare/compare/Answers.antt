-- `table_order::compare::compare` meets its contract. The loop's invariant: the two are equal up to the place i.
-- Assumes nothing.
use mathlib.Core.Path.{◌≡◌, sym, ap₂, ◌∙◌}
use mathlib.Core.List.{List}
use Prim.Native.Nat.{ℕ, min, ◌<◌}
use native.Mathlib.Omega.{arith}
use lib.Dec.{eqb, ltb, leb}
use lib.ListN.{length, get_or}
use Rattle.table.specs.declared.rows.Key.{Key}
use Rattle.table_order.specs.Order.{rank, read_by, separator, spell_by}
use Rattle.table_order.proofs.Laws.Compare.{by-at, by_length, of_equal, of_greater, of_less, parted_differ, parted-end, parted_skip, parted_step, shared-length}
use Rattle.table_order.proofs.compare.compare.Goals as goal

-- a place before the shorter key's end is in both, and in their ranks
both : (k : Key) (a b : List ℕ) (i end : ℕ) → i < end → end ≡ min (length a) (length b)
    → (i < length a) × (i < length b) × (i < length (spell_by k a)) × (i < length (spell_by k b))
both k a b i end h e =
    (omega arith, omega arith, omega (arith, by_length k a), omega (arith, by_length k b))

-- the rank at a place, as the function reads it
ranked : (k : Key) (s : List ℕ) (i sep x : ℕ) → i < length s → sep ≡ separator k → x ≡ get_or (read_by k s) i 0
    → get_or (spell_by k s) i 0 ≡ rank sep x
ranked k s i sep x h e f = by-at k s i h ∙ sym (ap₂ rank e f)

pub pass_equal-start-requires : goal.pass_equal-start-requires
pass_equal-start-requires c =
    let a = c.args in
    let l = shared-length (spell_by a.key a.a.now) (spell_by a.key a.b.now) in
    record {
      end_in_bounds = (omega arith, omega arith);
      from_le_end = (omega (arith, l.0, l.1, by_length a.key a.a.now, by_length a.key a.b.now), c.requires);
    }

pub loop-i-init : goal.loop-i-init
loop-i-init c =
    let a = c.args in
    let e = c.pass_equal-start.ensures in
    (e.0, parted_skip (spell_by a.key a.a.now) (spell_by a.key a.b.now) c.pass_equal-start.result e.1)

pub byte_by-x-requires : goal.byte_by-x-requires
byte_by-x-requires c = let a = c.args in (both a.key a.a.now a.b.now c.loop-i.i _ (omega arith) c.min-end.ensures).0

pub byte_by-y-requires : goal.byte_by-y-requires
byte_by-y-requires c = let a = c.args in (both a.key a.a.now a.b.now c.loop-i.i _ (omega arith) c.min-end.ensures).1

-- where the ranks differ, the lists of ranks do
pub returns-in-Less : goal.returns-in-Less
returns-in-Less c =
    let a = c.args in
    let i = c.loop-i.i in
    let f = both a.key a.a.now a.b.now i _ (omega arith) c.min-end.ensures in
    let x = ranked a.key a.a.now i _ _ f.0 c.separator_of-sep.ensures c.byte_by-x.ensures in
    let y = ranked a.key a.b.now i _ _ f.1 c.separator_of-sep.ensures c.byte_by-y.ensures in
    let l = of_less (rank _ c.byte_by-x.result) (rank _ c.byte_by-y.result) (sym c.in-Less.is ∙ c.compare_bytes.ensures) in
    let d = parted_differ (spell_by a.key a.a.now) (spell_by a.key a.b.now) i c.loop-i.invariant.1 f.2 f.3 (ap₂ eqb x y ∙ l.0) in
    record { many = sym d.0; less = sym (d.1 ∙ ap₂ ltb x y ∙ l.1) }

pub returns-in-Greater : goal.returns-in-Greater
returns-in-Greater c =
    let a = c.args in
    let i = c.loop-i.i in
    let f = both a.key a.a.now a.b.now i _ (omega arith) c.min-end.ensures in
    let x = ranked a.key a.a.now i _ _ f.0 c.separator_of-sep.ensures c.byte_by-x.ensures in
    let y = ranked a.key a.b.now i _ _ f.1 c.separator_of-sep.ensures c.byte_by-y.ensures in
    let l = of_greater (rank _ c.byte_by-x.result) (rank _ c.byte_by-y.result) (sym c.in-Greater.is ∙ c.compare_bytes.ensures) in
    let d = parted_differ (spell_by a.key a.a.now) (spell_by a.key a.b.now) i c.loop-i.invariant.1 f.2 f.3 (ap₂ eqb x y ∙ l.0) in
    record { many = sym d.0; less = sym (d.1 ∙ ap₂ ltb x y ∙ l.1) }

pub loop-i-preserved : goal.loop-i-preserved
loop-i-preserved c =
    let a = c.args in
    let i = c.loop-i.i in
    let f = both a.key a.a.now a.b.now i _ (omega arith) c.min-end.ensures in
    let x = ranked a.key a.a.now i _ _ f.0 c.separator_of-sep.ensures c.byte_by-x.ensures in
    let y = ranked a.key a.b.now i _ _ f.1 c.separator_of-sep.ensures c.byte_by-y.ensures in (
      omega arith,
      parted_step (spell_by a.key a.a.now) (spell_by a.key a.b.now) i c.loop-i.invariant.1 f.2 f.3
          (ap₂ eqb x y ∙ of_equal _ _ (sym c.in-Equal.is ∙ c.compare_bytes.ensures)),
    )

pub returns : goal.returns
returns c =
    let a = c.args in
    let e : c.loop-i.i ≡ c.min-end.result = omega arith in
    let d = parted-end (spell_by a.key a.a.now) (spell_by a.key a.b.now) c.loop-i.i c.loop-i.invariant.1
    (e ∙ c.min-end.ensures ∙ sym (ap₂ min (by_length a.key a.a.now) (by_length a.key a.b.now))) in
    record {
      many = sym e ∙ sym d.0;
      less = sym (d.1 ∙ ap₂ leb (by_length a.key a.a.now) (by_length a.key a.b.now));
    }
