-- `mapping_to_record::to_record::map_shaped` meets its contract: an address is carried whole exactly where what was read is no canonical record.
-- Assumes nothing.
use mathlib.Core.Path.{◌≡◌, sym, ap, ◌∙◌}
use Rattle.std.proofs.Common.{Ok, Err}
use Rattle.ortext_read.specs.Answers.{fault_reading, reading}
use Rattle.ortext_read.specs.Apply.{read}
use Rattle.ortext_read.proofs.Laws.Answers.{reads_as}
use Rattle.mailaddr.specs.Answers.{address_at}
use Rattle.table.specs.Rows.{row_at, table_at}
use Rattle.mapping.specs.Answers.{inward}
use Rattle.mapping.specs.Answers.{is_good, read_well, told_record}
use Rattle.mapping.specs.Results.{mapped}
use Rattle.mapping.proofs.Laws.Steps.{fault-not_good, shaped-carried, shaped-good}
use Rattle.mapping_to_record.proofs.to_record.map_shaped.Goals.{in_default-via-in-Ok+else-is_canonical, in_default-via-in_default}
use Rattle.mapping_to_record.proofs.to_record.map_shaped.Goals as goal

pub returns-in-Ok : goal.returns-in-Ok
unfolding told_record mapped reading
returns-in-Ok c =
    let a = c.args in
    let t = inward a.table.now.text.now a.table.now.to_path.now a.table.now.loaded in
    let x = address_at a.s.now a.parted in
    let e : read c.in-Ok.rec ≡ read_well t x = reads_as (Ok c.in-Ok.rec) (read_well t x) (rw c.in-Ok.is at c.read_parted.ensures) in
    sym (shaped-good t x a.s.now c.in-Ok.rec e (sym c.is_canonical.ensures ∙ c.if-is_canonical.true))

pub returns-in_default : goal.returns-in_default
unfolding reading is_good row_at table_at
returns-in_default c =
    let a = c.args in
    let t = inward a.table.now.text.now a.table.now.to_path.now a.table.now.loaded in
    let x = address_at a.s.now a.parted in
    let carried = shaped-carried t x a.s.now in
    elim c.in_default.branch [
      | in_default-via-in-Ok+else-is_canonical w ↦
          let e : read w.in-Ok.rec ≡ read_well t x = reads_as (Ok w.in-Ok.rec) (read_well t x) (rw w.in-Ok.is at c.read_parted.ensures) in
          c.carry.ensures ∙ sym (carried (ap is_good (sym e) ∙ sym w.is_canonical.ensures ∙ w.if-is_canonical.false))
      | in_default-via-in_default w ↦
          let f = w.in_default.field-0 in
          let e : fault_reading f ≡ read_well t x = reads_as (Err f) (read_well t x) (rw w.in_default.is at c.read_parted.ensures) in
          c.carry.ensures ∙ sym (carried (ap is_good (sym e) ∙ fault-not_good f))
    ]
