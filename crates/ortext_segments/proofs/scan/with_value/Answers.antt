-- `ortext_segments::scan::with_value` meets its contract: it finds the end of the value, and asks for a slash there.
-- Assumes nothing.
use mathlib.Core.Path.{◌≡◌, sym, ◌∙◌}
use Rattle.std.specs.Prelude.{Some}
use borrow.Author.Tests.{eq-eqb, ne_eqb}
use lib.ListN.{drop, get_or}
use Rattle.ortext_segments.specs.Scan.{further, stop_run}
use Rattle.ortext_segments.proofs.Laws.Scan.{end-place, value-at, value_nowhere}
use Rattle.ortext_segments.proofs.scan.with_value.Goals as goal

pub returns-in_err-end : goal.returns-in_err-end
returns-in_err-end c =
    let a = c.args in
    c.from_residual.ensures ∙ sym (value_nowhere a.s.now a.from a.key a.kind (sym c.text_end.ensures ∙ c.in_err-end.was))

pub bounds-s-end : goal.bounds-s-end
bounds-s-end c =
    let the_found : let a = c.args in further a.from (stop_run (drop a.from a.s.now)) ≡ Some c.in_ok-end.end = sym c.text_end.ensures ∙ c.in_ok-end.was in
    let at = c in
    let a = at.args in
    (end-place a.s.now a.from at.in_ok-end.end (the_found)).1

pub returns-then-s-end-ne47 : goal.returns-then-s-end-ne47
returns-then-s-end-ne47 c =
    let the_found : let a = c.args in further a.from (stop_run (drop a.from a.s.now)) ≡ Some c.in_ok-end.end = sym c.text_end.ensures ∙ c.in_ok-end.was in
    let at = c in
    let a = at.args in
    sym (value-at a.s.now a.from a.key a.kind at.in_ok-end.end (the_found) ∙ rw (ne_eqb (get_or a.s.now at.in_ok-end.end 0) 47 c.if-s-end-ne47.true))

pub overflow_sub-result : goal.overflow_sub-result
overflow_sub-result c =
    let the_found : let a = c.args in further a.from (stop_run (drop a.from a.s.now)) ≡ Some c.in_ok-end.end = sym c.text_end.ensures ∙ c.in_ok-end.was in
    let at = c in
    let a = at.args in
    (end-place a.s.now a.from at.in_ok-end.end (the_found)).0

pub returns : goal.returns
returns c =
    let the_found : let a = c.args in further a.from (stop_run (drop a.from a.s.now)) ≡ Some c.in_ok-end.end = sym c.text_end.ensures ∙ c.in_ok-end.was in
    let at = c in
    let a = at.args in
    sym (value-at a.s.now a.from a.key a.kind at.in_ok-end.end (the_found) ∙ rw (eq-eqb (get_or a.s.now at.in_ok-end.end 0) 47 c.if-s-end-ne47.false))
