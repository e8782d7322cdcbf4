-- `mapping_to_record::to_record::map_address` meets its contract: refusals 2 and 1 by the shape, and else the address by its parts.
-- Assumes nothing.
use mathlib.Core.Path.{◌≡◌, sym, ap, ◌∙◌}
use Rattle.std.proofs.Common.{Err}
use Rattle.mailaddr.specs.Answers.{address_at, shape_answer, shaping}
use Rattle.mailaddr.specs.declared.shape.AddressFault.TheVariants.{NoShape, TooLong}
use Rattle.mapping.specs.Answers.{inward}
use Rattle.mapping.specs.Answers.{record_bad_line, record_number, told_record}
use Rattle.mapping.specs.Results.{refused_record}
use Rattle.mapping.specs.ToRecord.{record_by, to_record}
use Rattle.mailaddr.proofs.Laws.Shaped.{shaped-short, shaped-within}
use Rattle.mapping_to_record.proofs.to_record.map_address.Goals as goal

pub map_shaped-requires : goal.map_shaped-requires
unfolding shape_answer
map_shaped-requires c =
    let e = rw c.in-Ok.is at c.read_shape.ensures in
    let s = c.args.s.now in
    let p = c.in-Ok.parted in
    record {
      s_len_bound = shaped-short s (address_at s p) (sym e);
      at_in_bounds = shaped-within s p (sym e);
    }

pub returns-in-Ok : goal.returns-in-Ok
unfolding to_record shape_answer
returns-in-Ok c =
    let e = rw c.in-Ok.is at c.read_shape.ensures in
    c.map_shaped.ensures ∙ ap (record_by (inward c.args.table.now.text.now c.args.table.now.to_path.now c.args.table.now.loaded) c.args.s.now) e

pub returns-in-Err-TooLong : goal.returns-in-Err-TooLong
unfolding to_record record_by refused_record told_record record_number record_bad_line shape_answer
returns-in-Err-TooLong c =
    let h : Err TooLong ≡ shaping c.args.s.now = rw c.in-Err-TooLong.field-0-is at c.in-Err-TooLong.ensures in
    ap (record_by (inward c.args.table.now.text.now c.args.table.now.to_path.now c.args.table.now.loaded) c.args.s.now) h

pub returns-in-Err-NoShape : goal.returns-in-Err-NoShape
unfolding to_record record_by refused_record told_record record_number record_bad_line shape_answer
returns-in-Err-NoShape c =
    let h : Err NoShape ≡ shaping c.args.s.now = rw c.in-Err-NoShape.field-0-is at c.in-Err-NoShape.ensures in
    ap (record_by (inward c.args.table.now.text.now c.args.table.now.to_path.now c.args.table.now.loaded) c.args.s.now) h
