-- `router_line::line::send_record` meets its contract.
-- Assumes nothing.
use mathlib.Core.Path.{◌≡◌, sym, ap, ◌∙◌}
use mathlib.Core.List.{List}
use Prim.Native.Nat.{ℕ}
use native.Mathlib.Omega.{arith}
use borrow.Rule.Slice.PartMut.{put_same, put_mid, same_len_mid}
use lib.ListN.{drop, length, length-drop, take}
use lib.Seq.{length-take-le}
use Rattle.chars.proofs.Laws.Write.{wrote_as}
use Rattle.oraddr.specs.View.{view}
use Rattle.ortext_read.specs.Apply.{read}
use Rattle.table_load.specs.Tables.{table_of}
use Rattle.mapping.specs.Answers.{address_room}
use Rattle.router_line.specs.Line.{answer_room, done_line, read_line, refused_line}
use Rattle.router_line.proofs.Laws.Line.{done_over, sent_done, sent_none, sent_not}
use Rattle.router_line.proofs.line.send_record.Goals as goal

-- the part behind the number and the tab has room for any address
part_length : (d : List ℕ) → length d ≡ answer_room → length (take address_room (drop 2 d)) ≡ address_room
part_length d h = length-take-le address_room (drop 2 d) (omega (arith, length-drop 2 d, h))

pub returns-then-not-is_canonical : goal.returns-then-not-is_canonical
returns-then-not-is_canonical c =
    let a = c.args in
    let t = table_of a.table.now in
    wrote_as (refused_line 4) (read_line t (read a.rec.now))
    (sent_not t a.rec.now (sym c.is_canonical.ensures ∙ c.if-not-is_canonical.true))
    c.put_refusal.ensures

pub write_address-requires : goal.write_address-requires
write_address-requires c = record {
  dst_len = part_length c.args.dst.now c.requires;
  canonical = sym c.is_canonical.ensures ∙ c.if-not-is_canonical.false;
}

pub put_done-requires : goal.put_done-requires
put_done-requires c =
    let d = c.args.dst.now in
    let w = c.write_address in
    let written = c.in-Some.ensures in
    let same = same_len_mid 2 address_room d w.new.dst w.auto.dst in
    omega (arith, same, written.fits, w.auto.dst, part_length d c.requires, c.requires)

pub returns-in-Some : goal.returns-in-Some
returns-in-Some c =
    let a = c.args in
    let t = table_of a.table.now in
    let good = sym c.is_canonical.ensures ∙ c.if-not-is_canonical.false in
    let written = c.in-Some.ensures in
    let s = take c.in-Some.n c.write_address.new.dst in
    wrote_as (done_line s) (read_line t (read a.rec.now)) (sent_done t a.rec.now s good (sym (c.of.ensures (view a.rec.now)) ∙ written.told))
    (done_over address_room written.wrote written.fits (omega (arith, c.requires)) c.put_done.ensures)

pub returns-in-None : goal.returns-in-None
returns-in-None c =
    let a = c.args in
    let d = a.dst.now in
    let t = table_of a.table.now in
    let good = sym c.is_canonical.ensures ∙ c.if-not-is_canonical.false in
    let none = c.in-None.ensures in
    wrote_as (refused_line 5) (read_line t (read a.rec.now)) (sent_none t a.rec.now good (sym (c.of.ensures (view a.rec.now)) ∙ none.0))
    (rw (ap (put_mid 2 address_room d) none.1 ∙ put_same 2 address_room d) at c.put_refusal-in-None.ensures)
