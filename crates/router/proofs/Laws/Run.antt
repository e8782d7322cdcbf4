-- Laws of runs of lines: what a line, or the start of one, adds to the output; steps of a run put together; and where a call stops.
-- Assumes nothing.
use mathlib.Core.Path.{◌≡◌, refl, sym, ap, subst, ◌∙◌}
use mathlib.Core.Logic.{◌⊎◌, inl, inr}
use mathlib.Core.Bool.{Bool, true, false}
use mathlib.Core.List.{List, [], ◌∷◌, ◌++◌, append_assoc, append-nil}
use Prim.Native.Nat.{ℕ, suc, ◌+◌, ◌≤◌, ◌<◌}
use native.Mathlib.Nat.{suc-add}
use native.Mathlib.Omega.{arith}
use borrow.Author.Tests.{lt-ltb, ltb-false, ltb-true}
use lib.Dec.{eqb, ltb}
use lib.ListN.{length, take, drop, length-append, length-drop, drop_of_length-le}
use lib.Seq.{drop-append-add, drop-append-le, drop-drop, length-take-le, take_all, take-append-le}
use Rattle.chars.specs.Lists.{non_empty}
use Rattle.chars.specs.Parts.{run, split}
use Rattle.chars.specs.Write.{Wrote}
use Rattle.chars.proofs.Laws.Lists.{by_test, true_not_false}
use Rattle.chars.proofs.Laws.Parts.{run_le, split-first, split-last, split-some}
use Rattle.chars.proofs.Laws.Write.{wrote-length, wrote_nothing, wrote_then}
use Rattle.table.specs.Lines.{TableOutcome}
use Rattle.router_line.specs.Line.{line_answer, longest_line, refused_line}
use Rattle.router.specs.Run.{Lacks, RoutingFrom, Waits, Went, after_line, answers, due, lines_of, whole}
use Rattle.router.specs.declared.run.Routed.{Routed}

-- ---- where the first LF stands when more follows

-- within the text
pub run_in : (s f : List ℕ) → run 10 s < length s → run 10 (s ++ f) ≡ run 10 s
unfolding run
run_in [] f h = absurd (omega arith)
run_in (x ∷ s) f h =
    by_test (eqb x 10)
    (λ e. rw e)
    (λ e. let k : suc (run 10 s) < suc (length s) = rw e at h in rw (e, run_in s f (omega arith)))

-- behind it
pub run_out : (s f : List ℕ) → run 10 s ≡ length s → run 10 (s ++ f) ≡ length s + run 10 f
unfolding run
run_out [] f h = omega arith
run_out (x ∷ s) f h =
    by_test (eqb x 10)
    (λ e. let k : 0 ≡ suc (length s) = rw e at h in absurd (omega arith))
    (λ e. let k : suc (run 10 s) ≡ suc (length s) = rw e at h in rw e (ap suc (run_out s f (omega arith)) ∙ sym (suc-add (length s) (run 10 f))))

-- ---- the whole, by its first line

module _ (l : TableOutcome) where
  -- a part that has another behind it is a line
  first-line : (p : List ℕ) (ps : List (List ℕ)) → non_empty ps ≡ true → answers l (lines_of (p ∷ ps)) ≡ line_answer l p ++ answers l (lines_of ps)
  unfolding answers lines_of non_empty
  first-line p [] h = true_not_false false h refl
  first-line p (q ∷ ps) h = refl

  whole-line : (s : List ℕ) → run 10 s < length s → whole l s ≡ line_answer l (take (run 10 s) s) ++ whole l (drop (run 10 s + 1) s)
  unfolding whole
  whole-line s h = rw (split-first 10 s h) (first-line (take (run 10 s) s) (split 10 (drop (run 10 s + 1) s)) (split-some 10 (drop (run 10 s + 1) s)))

  pub whole-none : whole l [] ≡ []
  unfolding whole answers lines_of non_empty split
  whole-none = refl

  -- a last line that lacks its LF
  last_line : (s : List ℕ) → 1 ≤ length s → answers l (lines_of (s ∷ [])) ≡ line_answer l s
  unfolding answers lines_of non_empty
  last_line [] k = absurd (omega arith)
  last_line (x ∷ s) k = append-nil (line_answer l (x ∷ s))

  whole-last : (s : List ℕ) → run 10 s ≡ length s → 1 ≤ length s → whole l s ≡ line_answer l s
  unfolding whole
  whole-last s h k = ap (λ (ps : List (List ℕ)). answers l (lines_of ps)) (split-last 10 s h) ∙ last_line s k

  -- a line over the limit, whatever follows
  over_answer : (s : List ℕ) → longest_line < length s → line_answer l s ≡ refused_line 1
  unfolding line_answer
  over_answer s h = rw (lt-ltb longest_line (length s) h)

  -- its answer is due at once, and what is left of it has none
  over_due : (s f : List ℕ) → run 10 s ≡ length s → longest_line < length s → whole l (s ++ f) ≡ refused_line 1 ++ whole l (after_line f)
  unfolding after_line
  over_due s f h k =
      by_test (ltb (run 10 (s ++ f)) (length (s ++ f)))
      (λ e.
      let n : run 10 (s ++ f) ≡ length s + run 10 f = run_out s f h in
      let i : run 10 (s ++ f) < length (s ++ f) = ltb-true (run 10 (s ++ f)) (length (s ++ f)) e in
      let m : length (take (run 10 (s ++ f)) (s ++ f)) ≡ run 10 (s ++ f) = length-take-le (run 10 (s ++ f)) (s ++ f) (run_le 10 (s ++ f)) in
      let d : drop (run 10 (s ++ f) + 1) (s ++ f) ≡ drop (run 10 f + 1) f =
      let j : run 10 (s ++ f) + 1 ≡ length s + (run 10 f + 1) = omega (arith, n) in
      ap (λ (j : ℕ). drop j (s ++ f)) j ∙ drop-append-add s f (run 10 f + 1) in
      whole-line (s ++ f) i ∙ rw (over_answer (take (run 10 (s ++ f)) (s ++ f)) (omega (arith, m, n)), d))
      (λ e.
      let n : run 10 (s ++ f) ≡ length s + run 10 f = run_out s f h in
      let c : length (s ++ f) ≡ length s + length f = length-append s f in
      let i : length (s ++ f) ≤ run 10 (s ++ f) = ltb-false (run 10 (s ++ f)) (length (s ++ f)) e in
      let d : drop (run 10 f + 1) f ≡ [] = drop_of_length-le f {i = run 10 f + 1} (omega arith) in
      whole-last (s ++ f) (omega (arith, run_le 10 (s ++ f))) (omega arith)
      ∙ over_answer (s ++ f) (omega arith)
      ∙ sym (append-nil (refused_line 1))
      ∙ ap (λ (t : List ℕ). refused_line 1 ++ t) (sym (ap (whole l) d ∙ whole-none)))

  -- ---- what is due, by the first line

  pub due-line : (s f : List ℕ) → run 10 s < length s → due l false (s ++ f) ≡ line_answer l (take (run 10 s) s) ++ due l false (drop (run 10 s + 1) s ++ f)
  unfolding due
  due-line s f h =
      let n : run 10 (s ++ f) ≡ run 10 s = run_in s f h in
      let t : take (run 10 s) (s ++ f) ≡ take (run 10 s) s = take-append-le (run 10 s) s f (run_le 10 s) in
      let d : drop (run 10 s + 1) (s ++ f) ≡ drop (run 10 s + 1) s ++ f = drop-append-le (run 10 s + 1) s f (omega arith) in
      whole-line (s ++ f) (omega (arith, n, length-append s f)) ∙ rw (n, t, d)

  -- with no LF yet: the last line, or one over the limit
  pub due-rest : (s f : List ℕ) (last : Bool) → run 10 s ≡ length s → 1 ≤ length s → (ltb longest_line (length s) ≡ false → last ≡ true)
      → (last ≡ true → f ≡ []) → due l false (s ++ f) ≡ line_answer l s ++ due l (ltb longest_line (length s)) f
  unfolding due
  due-rest s f last h k m e =
      by_test (ltb longest_line (length s))
      (λ o.
      over_due s f h (ltb-true longest_line (length s) o)
      ∙ ap (λ (t : List ℕ). t ++ whole l (after_line f)) (sym (over_answer s (ltb-true longest_line (length s) o)))
      ∙ ap (λ (b : Bool). line_answer l s ++ due l b f) (sym o))
      (λ o.
      let z : f ≡ [] = e (m o) in
      ap (λ (t : List ℕ). whole l (s ++ t)) z
      ∙ ap (whole l) (append-nil s)
      ∙ whole-last s h k
      ∙ sym (append-nil (line_answer l s))
      ∙ ap (λ (t : List ℕ). line_answer l s ++ t) (sym whole-none)
      ∙ ap (λ (t : List ℕ). line_answer l s ++ whole l t) (sym z)
      ∙ ap (λ (b : Bool). line_answer l s ++ due l b f) (sym o))

  -- within a line over the limit: up to its LF, or none has come
  pub due_skip : (s f : List ℕ) → run 10 s < length s → due l true (s ++ f) ≡ due l false (drop (run 10 s + 1) s ++ f)
  unfolding due after_line
  due_skip s f h = rw (run_in s f h) (ap (whole l) (drop-append-le (run 10 s + 1) s f (omega arith)))

  pub due-more : (s f : List ℕ) → run 10 s ≡ length s → due l true (s ++ f) ≡ due l true f
  unfolding due after_line
  due-more s f h =
      let j : run 10 (s ++ f) + 1 ≡ length s + (run 10 f + 1) = omega (arith, run_out s f h) in
      ap (whole l) (ap (λ (j : ℕ). drop j (s ++ f)) j ∙ drop-append-add s f (run 10 f + 1))

-- ---- steps of a run

module _ {l : TableOutcome} {s : List ℕ} {last : Bool} where
  pub went-start : (from at : ℕ) (old : List ℕ) → from ≤ length s → at ≤ length old → Went l false (drop from s) s last at old false from at old
  went-start from at old h k = record { text = []; wrote = wrote_nothing; room = k; within = h; on = omega arith; paid = λ z. absurd (omega arith); owed = λ f e. refl }

  pub went_then : {over over' : Bool} {q old mid new : List ℕ} {w at written taken' written' : ℕ}
      → Went l over q s last w old false at written mid → Went l false (drop at s) s last written mid over' taken' written' new
      → Went l over q s last w old over' taken' written' new
  went_then {over} {over'} {q} {old} {mid} {new} {w} {at} {written} {taken'} {written'} a b =
      record {
        text = a.text ++ b.text;
        wrote = wrote_then a.wrote b.wrote;
        room = omega (arith, b.room, wrote-length a.wrote);
        within = b.within;
        on = omega (arith, a.on, b.on);
        paid = λ z. by_test (ltb 0 (length a.text))
            (λ e. omega (arith, a.paid (ltb-true 0 (length a.text) e), b.on))
            (λ e. omega (arith, b.paid (omega (arith, ltb-false 0 (length a.text) e, length-append a.text b.text)), a.on));
        owed = λ f e. a.owed f e ∙ ap (λ (t : List ℕ). a.text ++ t) (b.owed f e) ∙ sym (append_assoc a.text b.text (due l over' (drop taken' s ++ f)));
      }

  -- a line with its LF
  pub went_line : (at end w n : ℕ) (mid new : List ℕ) → at < length s → end ≡ at + run 10 (drop at s) → end < length s
      → Wrote mid w (line_answer l (take (run 10 (drop at s)) (drop at s))) n new → n ≤ length mid
      → Went l false (drop at s) s last w mid false (end + 1) n new
  went_line at end w n mid new h e k wr m =
      let j : at + (run 10 (drop at s) + 1) ≡ end + 1 = omega (arith, e) in
      let d : drop (run 10 (drop at s) + 1) (drop at s) ≡ drop (end + 1) s = drop-drop (run 10 (drop at s) + 1) at s ∙ ap (λ (j : ℕ). drop j s) j in
      record {
        text = line_answer l (take (run 10 (drop at s)) (drop at s));
        wrote = wr;
        room = m;
        within = omega arith;
        on = omega (arith, length-drop (end + 1) s, length-drop at s, e);
        paid = λ _. omega (arith, length-drop (end + 1) s, length-drop at s, e);
        owed = λ f _. due-line l (drop at s) f (omega (arith, e, length-drop at s)) ∙ rw d;
      }

  -- what has no LF, and is a line all the same
  pub went-rest : (at w n : ℕ) (mid new : List ℕ) → at < length s → run 10 (drop at s) ≡ length (drop at s)
      → (ltb longest_line (length (drop at s)) ≡ false → last ≡ true)
      → Wrote mid w (line_answer l (drop at s)) n new → n ≤ length mid
      → Went l false (drop at s) s last w mid (ltb longest_line (length (drop at s))) (length s) n new
  went-rest at w n mid new h e k wr m =
      let d : drop (length s) s ≡ [] = drop_of_length-le s {i = length s} (omega arith) in
      record {
        text = line_answer l (drop at s);
        wrote = wr;
        room = m;
        within = omega arith;
        on = omega (arith, length-drop (length s) s, length-drop at s);
        paid = λ _. omega (arith, length-drop (length s) s, length-drop at s);
        owed = λ f g. due-rest l (drop at s) f last e (omega (arith, length-drop at s)) k g ∙ rw d;
      }

  -- the rest of a line over the limit, up to its LF, or all of it where there is none
  pub went_skip : (end : ℕ) (old : List ℕ) → end ≡ run 10 s → end < length s → Went l true s s last 0 old false (end + 1) 0 old
  went_skip end old e h =
      record {
        text = [];
        wrote = wrote_nothing;
        room = omega arith;
        within = omega arith;
        on = omega (arith, length-drop (end + 1) s);
        paid = λ z. absurd (omega arith);
        owed = λ f _. due_skip l s f (omega arith) ∙ rw e;
      }

  went-more : (old : List ℕ) → run 10 s ≡ length s → Went l true s s last 0 old true (length s) 0 old
  went-more old h =
      let d : drop (length s) s ≡ [] = drop_of_length-le s {i = length s} (omega arith) in
      record {
        text = [];
        wrote = wrote_nothing;
        room = omega arith;
        within = omega arith;
        on = omega (arith, length-drop (length s) s);
        paid = λ z. absurd (omega arith);
        owed = λ f _. due-more l s f h ∙ rw d;
      }

-- ---- where a call stops

module _ {l : TableOutcome} {over : Bool} {q s : List ℕ} {last : Bool} {w : ℕ} {old mid : List ℕ} {at written : ℕ}
    (a : Went l over q s last w old false at written mid) where
  -- what goes on from here
  pub routing_then : {r : Routed} {new : List ℕ} → RoutingFrom l false (drop at s) s last written mid r new → RoutingFrom l over q s last w old r new
  routing_then {r} {new} b =
      record {
        went = went_then a b.went;
        stops = subst (λ (n : ℕ). Waits last (drop r.taken s) ⊎ Lacks l (drop r.taken s) r.written n) (wrote-length a.wrote) b.stops;
      }

  -- the next answer does not fit, and the buffer is as it was
  pub routing-full : (new : List ℕ) → at < length s → new ≡ mid → length mid < written + length (line_answer l (take (run 10 (drop at s)) (drop at s)))
      → RoutingFrom l over q s last w old (record { over = false; taken = at; written = written }) new
  routing-full new h e k =
      record {
        went = subst (λ (n : List ℕ). Went l over q s last w old false at written n) (sym e) a;
        stops = inr (record { some = omega (arith, length-drop at s); short = omega (arith, wrote-length a.wrote) });
      }

  -- more has to come
  pub routing_wait : run 10 (drop at s) ≡ length (drop at s) → length (drop at s) ≤ longest_line → (last ≡ true → drop at s ≡ [])
      → RoutingFrom l over q s last w old (record { over = false; taken = at; written = written }) mid
  routing_wait e k m = record { went = a; stops = inl (record { unended = e; short = k; more = m }) }

  -- nothing is left
  pub routing-end : length s ≤ at → RoutingFrom l over q s last w old (record { over = false; taken = at; written = written }) mid
  unfolding run
  routing-end h =
      let d : drop at s ≡ [] = drop_of_length-le s {i = at} h in
      routing_wait (rw d) (rw d (omega arith)) (λ _. d)

-- a text that has no LF and was answered
pub routing-rest : {l : TableOutcome} {s : List ℕ} {last : Bool} (over : Bool) (at w n : ℕ) (mid new : List ℕ) → at < length s → run 10 (drop at s) ≡ length (drop at s)
    → over ≡ ltb longest_line (length (drop at s)) → (over ≡ false → last ≡ true) → Wrote mid w (line_answer l (drop at s)) n new → n ≤ length mid
    → RoutingFrom l false (drop at s) s last w mid (record { over = over; taken = length s; written = n }) new
unfolding run
routing-rest {l} {s} {last} over at w n mid new h e o k wr m =
    let d : drop (length s) s ≡ [] = drop_of_length-le s {i = length s} (omega arith) in
    record {
      went = subst (λ (b : Bool). Went l false (drop at s) s last w mid b (length s) n new) (sym o) (went-rest at w n mid new h e (λ z. k (o ∙ z)) wr m);
      stops = inl (record { unended = rw d; short = rw d (omega arith); more = λ _. d });
    }

-- one that does not fit
pub rest-full : {l : TableOutcome} {s : List ℕ} {last : Bool} (at w : ℕ) (mid new : List ℕ) → at < length s → run 10 (drop at s) ≡ length (drop at s)
    → w ≤ length mid → new ≡ mid → length mid < w + length (line_answer l (drop at s))
    → RoutingFrom l false (drop at s) s last w mid (record { over = false; taken = at; written = w }) new
rest-full {l} {s} {last} at w mid new h e m z k =
    let t : take (run 10 (drop at s)) (drop at s) ≡ drop at s = take_all (run 10 (drop at s)) (drop at s) (omega arith) in
    routing-full (went-start at w mid (omega arith) m) new h z (rw t k)

-- the rest of a line over the limit, all of it
pub routing-more : {l : TableOutcome} {s : List ℕ} {last : Bool} (end : ℕ) (old : List ℕ) → end ≡ run 10 s → end ≡ length s
    → RoutingFrom l true s s last 0 old (record { over = true; taken = end; written = 0 }) old
unfolding run
routing-more {l} {s} {last} end old e h =
    let d : drop end s ≡ [] = drop_of_length-le s {i = end} (omega arith) in
    record {
      went = subst (λ (n : ℕ). Went l true s s last 0 old true n 0 old) (sym h) (went-more old (omega arith));
      stops = inl (record { unended = rw d; short = rw d (omega arith); more = λ _. d });
    }
