-- `router_line::line::put_record` meets its contract.
-- Assumes nothing.
use mathlib.Core.Path.{◌≡◌, ◌∙◌}
use mathlib.Core.Bool.{true}
use mathlib.Core.List.{List, ◌∷◌}
use Prim.Native.Nat.{ℕ, ◌<◌}
use native.Mathlib.Omega.{arith}
use lib.ListN.{length, set, length-set}
use Rattle.chars.specs.Write.{Wrote}
use Rattle.chars.proofs.Laws.Write.{wrote-length, wrote_one, wrote_then}
use Rattle.oraddr.specs.Canonical.{canonical_record}
use Rattle.oraddr.specs.View.{view}
use Rattle.oraddr.specs.declared.record.Record.{Record}
use Rattle.oraddr.proofs.Laws.Canonical.{canonical-view}
use Rattle.ortext_segments.specs.Keys.{keys}
use Rattle.ortext_write.specs.Write.{record_text, remaining}
use Rattle.ortext_write.proofs.Laws.Write.{text_bound}
use Rattle.router_line.specs.Line.{answer_room, done_line}
use Rattle.router_line.proofs.line.put_record.Goals as goal

-- with the number and the tab before it, the text leaves room for the LF
room_left : (d new : List ℕ) (x : Record) (n : ℕ) → length d ≡ answer_room → canonical_record x ≡ true
    → Wrote d 0 (48 ∷ 9 ∷ record_text keys (view x)) n new → n < length d
unfolding remaining
room_left d new x n h k w = omega (arith, w.moved, text_bound (view x) (canonical-view x k) 0)

pub write_text-end-requires : goal.write_text-end-requires
write_text-end-requires c =
    let d = c.args.dst.now in
    let bound = text_bound (view c.args.rec.now) (canonical-view c.args.rec.now c.requires.canonical) 0 in
    omega (arith, bound, c.requires.dst_len, length-set (set d 0 48) 1 9, length-set d 0 48)

pub bounds-dst-end : goal.bounds-dst-end
unfolding remaining
bounds-dst-end c =
    let t = c.write_text-end in
    let w : Wrote c.args.dst.now 0 (48 ∷ 9 ∷ record_text keys (view c.args.rec.now)) t.result t.new.dst =
    wrote_then (wrote_then (wrote_one 48) (wrote_one 9)) t.ensures in
    omega (arith, room_left c.args.dst.now t.new.dst c.args.rec.now t.result c.requires.dst_len c.requires.canonical w, wrote-length w)

pub overflow_add-result : goal.overflow_add-result
unfolding remaining
overflow_add-result c =
    let t = c.write_text-end in
    let w : Wrote c.args.dst.now 0 (48 ∷ 9 ∷ record_text keys (view c.args.rec.now)) t.result t.new.dst =
    wrote_then (wrote_then (wrote_one 48) (wrote_one 9)) t.ensures in
    omega (arith, room_left c.args.dst.now t.new.dst c.args.rec.now t.result c.requires.dst_len c.requires.canonical w, c.requires.dst_len)

pub shape_of-dst : goal.shape_of-dst
shape_of-dst c =
    let t = c.write_text-end in
    length-set t.new.dst t.result 10 ∙ wrote-length (wrote_then (wrote_then (wrote_one 48) (wrote_one 9)) t.ensures)

pub returns : goal.returns
unfolding done_line remaining
returns c = wrote_then (wrote_then (wrote_then (wrote_one 48) (wrote_one 9)) c.write_text-end.ensures) (wrote_one 10)
