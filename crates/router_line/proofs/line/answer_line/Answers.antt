-- `router_line::line::answer_line` meets its contract.
-- Assumes nothing.
use Rattle.std.proofs.Common.{◌≡◌, ◌-◌, length, get_or, take, drop, ap, arith, ◌∙◌}
use lib.ListN.{length-drop}
use lib.Seq.{take_all}
use Rattle.chars.proofs.Laws.Write.{wrote_as}
use Rattle.table_load.specs.Tables.{table_answer}
use Rattle.router_line.specs.Line.{line_answer, refused_line, tagged_line}
use Rattle.router_line.proofs.Laws.Line.{line_over, line-short, line_tagged, line_untabbed}
use Rattle.router_line.proofs.line.answer_line.Goals.{then-line-gt-LONGEST_LINE-via-then-line-gt-LONGEST_LINE, then-line-gt-LONGEST_LINE-via-else-line-gt-LONGEST_LINE+then-line-lt2, then-line-gt-LONGEST_LINE-via-else-line-gt-LONGEST_LINE+else-line-lt2+then-line-ne9}
use Rattle.router_line.proofs.line.answer_line.Goals as goal

pub returns-then-line-gt-LONGEST_LINE : goal.returns-then-line-gt-LONGEST_LINE
returns-then-line-gt-LONGEST_LINE c =
    let a = c.args in
    let s = a.line.now in
    let l = table_answer a.read.now in
    let one : refused_line 1 ≡ line_answer l s =
    elim c.then-line-gt-LONGEST_LINE.branch [
      | then-line-gt-LONGEST_LINE-via-then-line-gt-LONGEST_LINE w ↦ line_over l s w.if-line-gt-LONGEST_LINE.true
      | then-line-gt-LONGEST_LINE-via-else-line-gt-LONGEST_LINE+then-line-lt2 w ↦ line-short l s w.if-line-lt2.true
      | then-line-gt-LONGEST_LINE-via-else-line-gt-LONGEST_LINE+else-line-lt2+then-line-ne9 w ↦
          line_untabbed l s w.if-line-gt-LONGEST_LINE.false w.if-line-ne9.true
    ] in
    wrote_as (refused_line 1) (line_answer l s) one c.put_refusal.ensures

pub returns : goal.returns
returns c =
    let a = c.args in
    let l = table_answer a.read.now in
    let s = a.line.now in
    wrote_as (tagged_line l (get_or s 0 0) (take (length s - 2) (drop 2 s))) (line_answer l s)
    (ap (tagged_line l (get_or s 0 0)) (take_all (length s - 2) (drop 2 s) (omega (arith, length-drop 2 s)))
    ∙ line_tagged l s (omega arith) c.if-line-ne9.false)
    c.answer_tagged.ensures
