-- `gateway::exports::gateway_check` meets its contract.
-- Assumes nothing.
use Rattle.table.specs.Lines.{loaded_from}
use Rattle.soundness.specs.Check.{told_check}
use Rattle.gateway_export.proofs.Laws.Exports.{packable_check}
use Rattle.gateway.proofs.Laws.Bounds.{table-number}
use Rattle.gateway.proofs.exports.gateway_check.Goals as goal

pub pack_check-requires : goal.pack_check-requires
pack_check-requires c =
    packable_check (loaded_from c.args.table.now) (told_check c.check.result) (table-number c.args.table.now) c.check.ensures

pub returns : goal.returns
returns c = c.pack_check.ensures (loaded_from c.args.table.now) c.check.ensures
