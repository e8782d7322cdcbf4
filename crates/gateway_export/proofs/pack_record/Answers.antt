-- `gateway_export::pack_record` meets its contract.
-- Assumes nothing.
use Rattle.std.proofs.Common.{◌≡◌, true, Ok, Result, refl}
use Rattle.oraddr.specs.Canonical.{canonical_record}
use Rattle.oraddr.specs.declared.record.Record.{Record}
use Rattle.mapping.specs.Answers.{told_record}
use Rattle.mapping.specs.declared.answers.RecordRefusal.{RecordRefusal}
use Rattle.gateway_export.specs.Exports.{Packable, text_result}
use Rattle.gateway_export.proofs.Laws.Exports.{exported, text-counts, text-not}
use Rattle.gateway_export.proofs.pack_record.Goals as goal

-- the record can be written
good : (x : Result Record RecordRefusal) (r : Record) → Packable (told_record x) → x ≡ Ok r → canonical_record r ≡ true
unfolding told_record
good x r p e = (rw e at p).canonical refl

pub write_canonical-requires : goal.write_canonical-requires
write_canonical-requires c = good c.args.done c.in-Ok.rec c.requires c.in-Ok.is

pub pack_address-requires : goal.pack_address-requires
pack_address-requires c =
    let w = c.write_canonical in
    text-counts c.in-Ok.rec c.args.out.now w.new.out w.result (good c.args.done c.in-Ok.rec c.requires c.in-Ok.is) w.ensures

pub pack_refusal-requires : goal.pack_refusal-requires
unfolding told_record
pack_refusal-requires c = (rw c.in-Err.is at c.requires).line

pub returns-in-Ok : goal.returns-in-Ok
unfolding text_result told_record
returns-in-Ok c =
    let w = c.write_canonical in
    rw c.in-Ok.is (exported (text_result (told_record (Ok c.in-Ok.rec)) c.args.out.now) w.result c.pack_address.result w.new.out w.ensures c.pack_address.ensures)

pub returns-in-Err : goal.returns-in-Err
returns-in-Err c = rw c.in-Err.is (text-not c.in-Err.refusal c.args.out.now c.pack_refusal.result c.pack_refusal.ensures)
