-- `mapping::sides::Inward::of` meets its contract.
-- Assumes nothing.
use Rattle.mapping.proofs.Laws.Sides.{inward-table}
use Rattle.mapping.proofs.sides.Inward.of.Goals as goal

pub returns : goal.returns
returns c =
    let t = c.args.table.now in
    inward-table t.text.now t.to_path.now t.to_domain.now t.loaded
