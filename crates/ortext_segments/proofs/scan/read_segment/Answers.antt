-- `ortext_segments::scan::read_segment` meets its contract: what stands behind the key says how the segment goes on.
-- Assumes nothing.
use mathlib.Core.Path.{◌≡◌, refl, sym, ap, ◌∙◌}
use mathlib.Core.Bool.{Bool, true, not, not-not, and-false}
use mathlib.Core.List.{List}
use Prim.Native.Nat.{ℕ, ◌+◌, ◌-◌, ◌<◌}
use native.Mathlib.Omega.{arith}
use borrow.Author.Tests.{eqb-true, lt-ltb, ne_eqb}
use lib.Dec.{eqb, ltb}
use Rattle.std.specs.Prelude.{Option, Some}
use Rattle.std.specs.Option.{option_eq}
use lib.ListN.{drop, get_or, take, length-drop}
use Rattle.chars.proofs.Laws.Seq.{byte_inside}
use Rattle.chars.specs.Lists.{all}
use Rattle.chars.proofs.Laws.Lists.{all-each}
use Rattle.ortext_segments.specs.Keys.{dd_key, key_number, key_of, keys}
use Rattle.ortext_segments.specs.Scan.{Segmenting}
use Rattle.ortext_segments.specs.Segments.{key_run, mark}
use Rattle.ortext_segments.proofs.Laws.Keys.{key-run_le}
use Rattle.ortext_segments.proofs.Laws.Segments.{bytes_only}
use Rattle.ortext_segments.proofs.Laws.Scan.{key-bad, key_missing, key-plain, key_typed}
use Rattle.ortext_segments.proofs.scan.read_segment.Goals as goal
use Rattle.ortext_segments.proofs.scan.read_segment.Goals.{then-b-ne46-via-then-b-ne46, then-b-ne46-via-else-b-ne46+then-ne}
use Rattle.ortext_segments.proofs.Laws.KeyLengths.{dd_test, number_of_key}

-- the text is bytes
byte_text : (s : List ℕ) → ((i : ℕ) → get_or s i 0 < mark) → bytes_only s ≡ true
unfolding all
byte_text s h = all-each (λ x. ltb x mark) s 0 (λ i l. lt-ltb (get_or s i 0) mark (h i))

-- the key, as the code has it
spelled : (s : List ℕ) (from end : ℕ) → end ≡ from + key_run (drop from s) → take (end - from) (drop from s) ≡ take (key_run (drop from s)) (drop from s)
spelled s from end e = let n : end - from ≡ key_run (drop from s) = omega (arith, e) in rw n

-- what the test of the key says
is_dd : {o : Option ℕ} {r t : Bool} (s : List ℕ) → o ≡ key_of keys s → r ≡ not (option_eq eqb o (Some dd_key)) → r ≡ t → eqb (key_number keys s) dd_key ≡ not t
is_dd s o r t = sym (not-not _) ∙ ap not (sym (r ∙ ap (λ x. not (option_eq eqb x (Some dd_key))) o ∙ ap not (dd_test s)) ∙ t)

pub returns-then-end-from : goal.returns-then-end-from
unfolding Segmenting
returns-then-end-from c =
    let s = c.args.s.now in
    let from = c.args.from in
    key_missing s from c.key_end-end.result c.key_end-end.ensures (take (key_run (drop from s)) (drop from s)) refl c.if-end-from.true c.requires

-- the key ends in the text
pub slice_bounds-key_number-end : goal.slice_bounds-key_number-end
slice_bounds-key_number-end c =
    let s = c.args.s.now in
    let from = c.args.from in
    omega (arith, c.key_end-end.ensures, key-run_le (drop from s), length-drop from s, c.requires)

-- a byte behind it that is not 0 has a place behind itself
pub overflow_add-end : goal.overflow_add-end
overflow_add-end c =
    omega (arith, byte_inside c.args.s.now c.key_end-end.result (omega (arith, c.byte_at-b.ensures, c.if-b-eq61.true)))

pub returns-then-b-eq61 : goal.returns-then-b-eq61
returns-then-b-eq61 c =
    let s = c.args.s.now in
    let from = c.args.from in
    let end = c.key_end-end.result in
    rw (c.with_value.ensures, c.plain_key.ensures, c.key_number-number.ensures, number_of_key (take (end - from) (drop from s)))
    (key-plain s from end c.key_end-end.ensures (take (end - from) (drop from s)) (spelled s from end c.key_end-end.ensures)
    (byte_text s (λ i. (c.type_inv.s i).fits)) (sym c.byte_at-b.ensures ∙ c.if-b-eq61.true) c.if-end-from.false)

pub returns-then-b-ne46 : goal.returns-then-b-ne46
unfolding Segmenting
returns-then-b-ne46 c =
    let s = c.args.s.now in
    let from = c.args.from in
    let end = c.key_end-end.result in
    let key = take (end - from) (drop from s) in
    let bad = key-bad s from end c.key_end-end.ensures key (spelled s from end c.key_end-end.ensures) (λ e. c.if-b-eq61.false (c.byte_at-b.ensures ∙ e)) in
    elim c.then-b-ne46.branch [
      | then-b-ne46-via-then-b-ne46 w ↦ bad (rw (ne_eqb (get_or s end 0) 46 (λ e. w.if-b-ne46.true (c.byte_at-b.ensures ∙ e)))) c.if-end-from.false
      | then-b-ne46-via-else-b-ne46+then-ne w ↦ bad (rw (is_dd key c.key_number-number.ensures w.ne.ensures w.if-ne.true, and-false)) c.if-end-from.false
    ]

pub overflow_add-end-2 : goal.overflow_add-end-2
overflow_add-end-2 c =
    omega (arith, byte_inside c.args.s.now c.key_end-end.result (omega (arith, c.byte_at-b.ensures, c.if-b-ne46.false)))

pub returns : goal.returns
returns c =
    let s = c.args.s.now in
    let from = c.args.from in
    let end = c.key_end-end.result in
    rw c.with_kind.ensures
    (key_typed s from end c.key_end-end.ensures (take (end - from) (drop from s)) (spelled s from end c.key_end-end.ensures)
    (byte_text s (λ i. (c.type_inv.s i).fits)) (sym c.byte_at-b.ensures ∙ c.if-b-ne46.false)
    (eqb-true (key_number keys (take (end - from) (drop from s))) dd_key (is_dd (take (end - from) (drop from s)) c.key_number-number.ensures c.ne.ensures c.if-ne.false)) c.if-end-from.false)
