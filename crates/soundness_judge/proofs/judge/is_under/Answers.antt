-- `soundness_judge::judge::is_under` meets its contract: a row's domain is as long as from its place to its end.
-- Assumes nothing.
use Rattle.std.proofs.Common.{◌<◌, ◌≤◌, ◌-◌, length, arith}
use borrow.Author.Tests.{le-ltb, lt-ltb}
use Rattle.table.specs.Rows.{row_at}
use Rattle.soundness.proofs.Laws.Judged.{row-length}
use Rattle.soundness_judge.specs.Judge.{is_under}
use Rattle.soundness_judge.proofs.judge.is_under.Goals as goal

pub returns-then-end-from : goal.returns-then-end-from
unfolding is_under row_at
returns-then-end-from c =
    let a = c.args in
    let d = (row_at a.text.now a.row).domain in
    let l : length d < length a.domain.now = omega (arith, row-length a.text.now a.row c.requires, c.if-end-from.true) in
    rw (lt-ltb (length d) (length a.domain.now) l) c.is_tail.ensures

pub returns-else-end-from : goal.returns-else-end-from
unfolding is_under
returns-else-end-from c =
    let a = c.args in
    let d = (row_at a.text.now a.row).domain in
    let m : length a.domain.now ≤ a.row.domain_end - a.row.domain = c.if-end-from.false in
    let l : length a.domain.now ≤ length d = omega (arith, row-length a.text.now a.row c.requires) in
    rw (le-ltb (length d) (length a.domain.now) l, le-ltb (a.row.domain_end - a.row.domain) (length a.domain.now) m)
