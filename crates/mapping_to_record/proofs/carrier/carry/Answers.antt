-- `mapping_to_record::carrier::carry` meets its contract: the buffer's front is the coded text where that fits.
-- Assumes nothing.
use mathlib.Core.Path.{◌≡◌, ap, ◌∙◌}
use native.Mathlib.Omega.{arith}
use lib.ListN.{take, replicate}
use Rattle.chars.specs.Lists.{bytes}
use Rattle.oraddr.specs.Add.{add_dd}
use Rattle.mailaddr.specs.Code.{coded}
use Rattle.table.specs.Rows.{fields_at, row_at}
use Rattle.mapping.specs.Answers.{record_bad_line, record_number, told_record}
use Rattle.mapping.specs.Results.{mapped, refused_record}
use Rattle.mapping.specs.Carried.{carrier_type, longest_coded}
use Rattle.mapping.proofs.Laws.Carrier.{carrying-done, carrying_long, front_is}
use Rattle.mapping_to_record.proofs.carrier.carry.Goals as goal

pub returns-then-n-gt-LONGEST_CODED : goal.returns-then-n-gt-LONGEST_CODED
unfolding row_at told_record record_number record_bad_line refused_record
returns-then-n-gt-LONGEST_CODED c =
    let a = c.args in
    carrying_long (fields_at a.text.now a.gateway.path a.gateway.path_end) a.s.now
    (omega (arith, c.put_coded-n.ensures.value, c.if-n-gt-LONGEST_CODED.true))

pub returns : goal.returns
unfolding row_at bytes told_record mapped
returns c =
    let a = c.args in
    let n = c.put_coded-n.result in
    let l = c.if-n-gt-LONGEST_CODED.false in
    let e : take n c.put_coded-n.new.dst ≡ coded a.s.now =
    ap (take n) c.put_coded-n.ensures.dst_after
    ∙ front_is (coded a.s.now) (replicate longest_coded 0) n longest_coded c.put_coded-n.ensures.value l in
    carrying-done (fields_at a.text.now a.gateway.path a.gateway.path_end) a.s.now c.add_path-path.result c.with_dd-done.result
    (omega (arith, c.put_coded-n.ensures.value, l)) c.add_path-path.ensures
    (c.with_dd-done.ensures ∙ ap (add_dd c.add_path-path.result.«record» carrier_type) e)
