-- `gateway::is_struct` meets its contract: an array is as long as its type says.
-- Assumes nothing.
use Rattle.std.proofs.Common.{◌∙◌}
use lib.ListN.{length-map}
use Rattle.oraddr.specs.View.{singles_view, value_view, view}
use Rattle.gateway.proofs.is_struct.Goals as goal

pub returns : goal.returns
unfolding view singles_view
returns c = record {
  values = length-map c.args.rec.singles.values value_view ∙ c.well_formed.0.1.1.0.1.1.0.1.0.1;
  units = c.well_formed.0.1.1.1.0.1.1.1.0.1.0.1;
  dds = c.well_formed.0.1.1.1.1.0.1.1.1.0.1.0.1;
}
