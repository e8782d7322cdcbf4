-- `mapping::sides::Outward::of` meets its contract.
-- Assumes nothing.
use Rattle.mapping.proofs.Laws.Sides.{outward-same}
use Rattle.mapping.proofs.sides.Outward.of.Goals as goal

pub returns : goal.returns
returns c =
    let t = c.args.table.now in
    outward-same t.text.now t.to_path.now t.to_domain.now t.loaded
