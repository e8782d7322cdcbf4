-- `ortext_segments::scan::with_kind` meets its contract: it finds the end of the type, and asks for an equals sign there.
-- Assumes nothing.
use mathlib.Core.Path.{◌≡◌, sym, ◌∙◌}
use Rattle.std.specs.Prelude.{Some}
use borrow.Author.Tests.{eq-eqb, ne_eqb}
use lib.ListN.{drop, get_or}
use Rattle.ortext_segments.specs.Scan.{further, stop_run}
use Rattle.ortext_segments.proofs.Laws.Scan.{end-place, kind_at, kind_nowhere}
use Rattle.ortext_segments.proofs.scan.with_kind.Goals as goal

pub returns-in_err-end : goal.returns-in_err-end
returns-in_err-end c =
    let a = c.args in
    c.from_residual.ensures ∙ sym (kind_nowhere a.s.now a.from (sym c.text_end.ensures ∙ c.in_err-end.was))

pub bounds-s-end : goal.bounds-s-end
bounds-s-end c =
    let the_found : let a = c.args in further a.from (stop_run (drop a.from a.s.now)) ≡ Some c.in_ok-end.end = sym c.text_end.ensures ∙ c.in_ok-end.was in
    let at = c in
    let a = at.args in
    (end-place a.s.now a.from at.in_ok-end.end (the_found)).1

pub returns-then-s-end-ne61 : goal.returns-then-s-end-ne61
returns-then-s-end-ne61 c =
    let the_found : let a = c.args in further a.from (stop_run (drop a.from a.s.now)) ≡ Some c.in_ok-end.end = sym c.text_end.ensures ∙ c.in_ok-end.was in
    let at = c in
    let a = at.args in
    sym (kind_at a.s.now a.from at.in_ok-end.end (the_found) ∙ rw (ne_eqb (get_or a.s.now at.in_ok-end.end 0) 61 c.if-s-end-ne61.true))

pub overflow_sub-kind : goal.overflow_sub-kind
overflow_sub-kind c =
    let the_found : let a = c.args in further a.from (stop_run (drop a.from a.s.now)) ≡ Some c.in_ok-end.end = sym c.text_end.ensures ∙ c.in_ok-end.was in
    let at = c in
    let a = at.args in
    (end-place a.s.now a.from at.in_ok-end.end (the_found)).0

pub returns : goal.returns
returns c =
    let the_found : let a = c.args in further a.from (stop_run (drop a.from a.s.now)) ≡ Some c.in_ok-end.end = sym c.text_end.ensures ∙ c.in_ok-end.was in
    let at = c in
    let a = at.args in
    c.with_value.ensures
    ∙ sym (kind_at a.s.now a.from at.in_ok-end.end (the_found) ∙ rw (eq-eqb (get_or a.s.now at.in_ok-end.end 0) 61 c.if-s-end-ne61.false))
