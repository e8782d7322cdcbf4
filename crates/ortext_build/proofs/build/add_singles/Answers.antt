-- `ortext_build::build::add_singles` meets its contract. The loop's invariant: what is left, added to the record so far, is all of it added.
-- Assumes nothing.
use mathlib.Core.Path.{◌≡◌, sym, ap, ◌∙◌}
use mathlib.Core.List.{List, [], ◌∷◌, map}
use Prim.Native.Nat.{ℕ, ◌+◌, ◌<◌, ◌≤◌}
use native.Mathlib.Omega.{arith}
use lib.ListN.{length, take, drop, get_or, drop_of_length-le, length-take}
use lib.Seq.{get_or-take}
use Rattle.oraddr.specs.Add.{told}
use Rattle.oraddr.specs.Bounds.{single_count}
use Rattle.oraddr.specs.declared.record.Record.{Record}
use Rattle.ortext_build.specs.Adding.{add_singles, start}
use Rattle.ortext_named.specs.Named.{no_span}
use Rattle.ortext_segments.specs.Scan.{span_text}
use Rattle.ortext_segments.specs.declared.scan.Span.{Span}
use Rattle.ortext_build.proofs.Laws.Adding.{single-none, singles_next, singles_stop, told-done, told-refused}
use Rattle.ortext_build.proofs.Laws.Spans.{span_none}
use Rattle.ortext_build.proofs.build.add_singles.Goals as goal

-- what is left at k, taken one step on
step : (f : Span → List ℕ) (once : List Span) (k : ℕ) (r : Record) → k < single_count → single_count ≤ length once
    → add_singles k (map f (drop k (take single_count once))) (start r)
    ≡ add_singles (k + 1) (map f (drop (k + 1) (take single_count once))) (add_singles k (f (get_or once k no_span) ∷ []) (start r))
step f once k r h l =
    let all = take single_count once in
    singles_next f no_span k all (start r) (omega (arith, length-take single_count once))
    ∙ ap (λ p. add_singles (k + 1) (map f (drop (k + 1) all)) (add_singles k (f p ∷ []) (start r))) (get_or-take single_count once k no_span h)

pub loop-k-preserved-then-span-eq0 : goal.loop-k-preserved-then-span-eq0
loop-k-preserved-then-span-eq0 c =
    let s = c.args.s.now in
    let once = c.args.named.once in
    let l = c.loop-k in
    let p = get_or once l.k no_span in
    l.invariant ∙ step (span_text s) once l.k l.next (omega arith) (omega (arith, c.requires.once-room))
    ∙ ap (add_singles _ _) (sym (single-none l.next l.k (span_text s p) (span_none s p c.if-span-eq0.true)))

pub add_single-done-requires : goal.add_single-done-requires
add_single-done-requires c = record { key = omega arith; sound = c.requires.once c.loop-k.k }

pub returns-in_default : goal.returns-in_default
returns-in_default c =
    let l = c.loop-k in
    let r = c.add_single-done.result in
    sym
    (l.invariant ∙ step (span_text c.args.s.now) c.args.named.once l.k l.next (omega arith) (omega (arith, c.requires.once-room))
    ∙ ap (add_singles _ _) (sym c.add_single-done.ensures)
    ∙ singles_stop _ _ (told r) (told-refused r c.in_default.is))

pub loop-k-preserved : goal.loop-k-preserved
loop-k-preserved c =
    let l = c.loop-k in
    let r = c.add_single-done.result in
    l.invariant ∙ step (span_text c.args.s.now) c.args.named.once l.k l.next (omega arith) (omega (arith, c.requires.once-room))
    ∙ ap (add_singles _ _) (sym c.add_single-done.ensures ∙ told-done r c.in-Done.is)

pub returns : goal.returns
unfolding add_singles
returns c =
    let l = c.loop-k in
    let once = c.args.named.once in
    let h : length (take single_count once) ≤ l.k = omega (arith, length-take single_count once) in
    c.unchanged.ensures ∙ sym (l.invariant ∙ rw (drop_of_length-le (take single_count once) h))
