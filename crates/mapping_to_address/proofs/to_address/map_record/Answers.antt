-- `mapping_to_address::to_address::map_record` meets its contract: a record that is not canonical, one with no address, and an address put in place.
-- Assumes nothing.
use mathlib.Core.Path.{refl, sym, ◌∙◌}
use lib.Seq.{length-take-le}
use lib.ListN.{take}
use Rattle.oraddr.specs.View.{view}
use Rattle.table_load.specs.Tables.{table_of}
use Rattle.mapping.proofs.Laws.Route.{answer-none, answer-not, answer-placed}
use Rattle.mapping_to_address.proofs.to_address.map_record.Goals as goal

pub returns-then-not-is_canonical : goal.returns-then-not-is_canonical
returns-then-not-is_canonical c =
    let a = c.args in
    answer-not (table_of a.table.now) a.rec a.out.now (sym c.is_canonical.ensures ∙ c.if-not-is_canonical.true)

pub write_address-requires : goal.write_address-requires
write_address-requires c =
    record {
      dst_len = refl;
      canonical = sym c.is_canonical.ensures ∙ c.if-not-is_canonical.false;
    }

pub slice_bounds-address-end : goal.slice_bounds-address-end
slice_bounds-address-end c =
    let w = rw c.in-Some.is at c.write_address.ensures in
    w.fits

pub slice_bounds-place-end : goal.slice_bounds-place-end
slice_bounds-place-end c =
    let w = rw c.in-Some.is at c.write_address.ensures in
    sym (length-take-le c.in-Some.n c.write_address.new.dst w.fits)

pub returns : goal.returns
returns c =
    let w = rw c.in-Some.is at c.write_address.ensures in
    let a = c.args in
    c.place.ensures
    ∙ answer-placed (table_of a.table.now) a.rec a.out.now (take c.in-Some.n c.write_address.new.dst)
    (sym c.is_canonical.ensures ∙ c.if-not-is_canonical.false) (sym (c.of.ensures (view a.rec)) ∙ w.told)

pub returns-in_default : goal.returns-in_default
returns-in_default c =
    let a = c.args in
    answer-none (table_of a.table.now) a.rec a.out.now
    (sym c.is_canonical.ensures ∙ c.if-not-is_canonical.false) (sym (c.of.ensures (view a.rec)) ∙ (rw c.in_default.is at c.write_address.ensures).0)
