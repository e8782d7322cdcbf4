-- `soundness_judge::judge::comes_back` meets its contract: the buffer has room for any text, so a text was written exactly where the record
-- has one, and it is mapped back.
-- Assumes nothing.
use Rattle.std.proofs.Common.{ℕ, replicate, refl, sym, ap, ◌∙◌}
use lib.Seq.{length-take-le}
use Rattle.table_load.specs.Tables.{table_of}
use Rattle.mapping.specs.Answers.{address_room}
use Rattle.soundness.specs.Sound.{back_by, comes_back}
use Rattle.soundness.proofs.Laws.Told.{struct_of, told-not, told_text}
use Rattle.soundness_judge.proofs.judge.comes_back.Goals as goal

pub slice_bounds-out-end : goal.slice_bounds-out-end
slice_bounds-out-end c =
    let a = c.args in
    let struct = struct_of a.rec c.well_formed.1.0.1.1.0.1.1.0.1.0.1 in
    (told_text (table_of a.table.now) a.table.now.formed a.rec struct (replicate address_room 0) c.map_record.new.out refl c.in-Ok.n c.in-Ok.ensures).1

pub slice_bounds-is_back-end : goal.slice_bounds-is_back-end
slice_bounds-is_back-end c =
    let a = c.args in
    let struct = struct_of a.rec c.well_formed.1.0.1.1.0.1.1.0.1.0.1 in
    sym (length-take-le c.in-Ok.n c.map_record.new.out
    (told_text (table_of a.table.now) a.table.now.formed a.rec struct (replicate address_room 0) c.map_record.new.out refl c.in-Ok.n c.in-Ok.ensures).1)

pub returns-in-Ok : goal.returns-in-Ok
unfolding comes_back
returns-in-Ok c =
    let a = c.args in
    let struct = struct_of a.rec c.well_formed.1.0.1.1.0.1.1.0.1.0.1 in
    c.is_back.ensures
    ∙ ap (back_by (table_of a.table.now) a.rec)
    (sym (told_text (table_of a.table.now) a.table.now.formed a.rec struct (replicate address_room 0) c.map_record.new.out refl c.in-Ok.n c.in-Ok.ensures).0)

pub returns-in-Err : goal.returns-in-Err
returns-in-Err c =
    let a = c.args in
    let struct = struct_of a.rec c.well_formed.1.0.1.1.0.1.1.0.1.0.1 in
    told-not (table_of a.table.now) a.table.now.formed a.rec struct (replicate address_room 0) c.map_record.new.out refl c.in-Err.field-0 c.in-Err.ensures
