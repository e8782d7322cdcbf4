-- `table_load::load::load_rows` meets its contract. The loop's invariant: what the lines from `from` on come to is what those from `at` on come to
-- after the rows read so far, and the number of the line is at most two more than the place.
-- Assumes nothing.
use mathlib.Core.Path.{◌≡◌, refl, ◌∙◌}
use mathlib.Core.List.{List}
use Prim.Native.Nat.{ℕ, ◌+◌, ◌≤◌, ◌<◌}
use native.Mathlib.Omega.{arith}
use lib.ListN.{length, drop, length-drop}
use Rattle.chars.specs.Parts.{run}
use Rattle.chars.proofs.Laws.Parts.{run_le}
use Rattle.table_load.proofs.Laws.Load.{progress_bad, progress_end, progress_last, progress_start, progress_step, refused}
use Rattle.table_load.proofs.load.load_rows.Goals as goal

-- a line that ends before the text does is within it, and its LF after it
within : (s : List ℕ) (at end : ℕ) → at < length s → end ≡ at + run 10 (drop at s) → (end ≡ length s → ⊥) → end < length s
within s at end h e n =
    let le : end ≤ length s = omega (arith, e, run_le 10 (drop at s), length-drop at s) in
    omega (arith, le, n)

pub loop-at-init : goal.loop-at-init
loop-at-init c =
    let a = c.args in
    let p = c.requires in (
      refl,
      refl,
      progress_start a.text.now a.to_path.now a.to_domain.now a.gateway a.from p.to_path_len p.to_domain_len p.row_inside p.from_in_bounds,
    )

pub shape_of-to_path-then-end-text : goal.shape_of-to_path-then-end-text
shape_of-to_path-then-end-text c = c.loop-at.invariant.0

pub shape_of-to_domain-then-end-text : goal.shape_of-to_domain-then-end-text
shape_of-to_domain-then-end-text c = c.loop-at.invariant.1

pub returns-then-end-text : goal.returns-then-end-text
returns-then-end-text c =
    refused
    (progress_last c.loop-at.invariant.2 c.part_end-end.result c.part_end-end.ensures (omega arith) (omega arith))

pub add_row-requires : goal.add_row-requires
add_row-requires c =
    let l = c.loop-at in
    let e = c.part_end-end in
    let w = within c.args.text.now l.at e.result (omega arith) e.ensures c.if-end-text.false in
    record {
      to_path_len = l.invariant.0 ∙ c.requires.to_path_len;
      to_domain_len = l.invariant.1 ∙ c.requires.to_domain_len;
      kept = l.invariant.2.kept;
      from_le_end = omega (arith, e.ensures);
      end_in_bounds = omega arith;
    }

pub returns-in_default : goal.returns-in_default
returns-in_default c =
    let l = c.loop-at in
    let e = c.part_end-end in
    let w = within c.args.text.now l.at e.result (omega arith) e.ensures c.if-end-text.false in
    refused (progress_bad l.invariant.2 e.result e.ensures w c.in_default.ensures)

pub overflow_add-at : goal.overflow_add-at
overflow_add-at c =
    let e = c.part_end-end in
    omega (arith, within c.args.text.now c.loop-at.at e.result (omega arith) e.ensures c.if-end-text.false)

pub overflow_add-line : goal.overflow_add-line
overflow_add-line c =
    let l = c.loop-at in
    let e = c.part_end-end in
    omega (arith, within c.args.text.now l.at e.result (omega arith) e.ensures c.if-end-text.false, e.ensures, l.invariant.2.counts)

pub loop-at-smaller : goal.loop-at-smaller
loop-at-smaller c =
    let e = c.part_end-end in
    omega (arith, within c.args.text.now c.loop-at.at e.result (omega arith) e.ensures c.if-end-text.false, e.ensures)

pub loop-at-preserved : goal.loop-at-preserved
loop-at-preserved c =
    let l = c.loop-at in
    let e = c.part_end-end in
    let w = within c.args.text.now l.at e.result (omega arith) e.ensures c.if-end-text.false in (
      c.add_row.auto.to_path ∙ l.invariant.0,
      c.add_row.auto.to_domain ∙ l.invariant.1,
      progress_step l.invariant.2 e.result e.ensures w c.in-Some.ensures,
    )

pub shape_of-to_path : goal.shape_of-to_path
shape_of-to_path c = c.loop-at.invariant.0

pub shape_of-to_domain : goal.shape_of-to_domain
shape_of-to_domain c = c.loop-at.invariant.1

pub returns : goal.returns
returns c = progress_end c.loop-at.invariant.2 (omega arith)
