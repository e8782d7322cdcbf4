-- `soundness_check::check::judge_under` meets its contract: each domain was judged, or does not lie under the row's.
-- Assumes nothing.
use Rattle.std.proofs.Common.{◌≡◌, ℕ, false, ap, sym, subst, arith, below_more, ◌∙◌}
use Rattle.table_load.specs.Tables.{table_of}
use Rattle.table.specs.Rows.{between, places_at, row_at, table_at}
use Rattle.table.specs.Table.{Row, Table}
use Rattle.table.specs.declared.line as line
use Rattle.soundness.specs.Check.{SecondBack}
use Rattle.soundness.proofs.Laws.Judged.{each-path, gateway-domain}
use Rattle.soundness_judge.specs.Judge.{is_under}
use Rattle.soundness_judge.proofs.Laws.{not-under, target-domain}
use Rattle.soundness_check.proofs.check.judge_under.Goals.{then-lies_under+in_ok-judge_pair-2, else-lies_under}
use Rattle.soundness_check.proofs.check.judge_under.Goals as goal

pub judge_pair-requires-clause-domain_value : goal.judge_pair-requires-clause-domain_value
unfolding table_at row_at between
judge_pair-requires-clause-domain_value c =
    let a = c.args in
    gateway-domain (table_of a.table.now) a.table.now.formed

pub loop-i-init : goal.loop-i-init
unfolding table_at row_at between
loop-i-init c = record { gateway = c.in_ok-judge_pair.ensures; before = λ j h. absurd (omega arith) }

pub judge_pair-requires-then-lies_under-clause-domain_value : goal.judge_pair-requires-then-lies_under-clause-domain_value
unfolding row_at between
judge_pair-requires-then-lies_under-clause-domain_value c =
    let a = c.args in
    target-domain a.table.now c.row_at-target.result c.loop-i.i (omega arith) c.row_at-target.ensures

pub loop-i-preserved : goal.loop-i-preserved
unfolding row_at between
loop-i-preserved c =
    let a = c.args in
    let w = c.loop-i in
    let t : Table = table_of a.table.now in
    let r : Row = row_at a.table.now.text.now a.row in
    let p : line.Row.Row = c.row_at-target.result in
    let back : SecondBack t r (row_at a.table.now.text.now p).domain =
    elim c.if-lies_under.branch [
      | then-lies_under+in_ok-judge_pair-2 w ↦ w.in_ok-judge_pair-2.ensures
      | else-lies_under w ↦ not-under t r (row_at a.table.now.text.now p).domain cc
    ] in record {
      gateway = w.invariant.gateway;
      before = below_more (λ j. SecondBack t r (row_at a.table.now.text.now (places_at a.table.now.to_path.now j)).domain) w.i w.invariant.before
          (subst (λ (q : line.Row.Row). SecondBack t r (row_at a.table.now.text.now q).domain) c.row_at-target.ensures back);
    }

pub returns : goal.returns
returns c =
    let a = c.args in
    let t : Table = table_of a.table.now in
    record {
      gateway = c.loop-i.invariant.gateway;
      rows = each-path a.table.now.text.now a.table.now.to_path.now a.table.now.to_domain.now a.table.now.loaded (λ b. SecondBack t (row_at a.table.now.text.now a.row) b.domain)
          (λ i h. c.loop-i.invariant.before i (omega arith));
    }
