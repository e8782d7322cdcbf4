-- `chars::parts::is_atoms` meets its contract: the class that it names is that of atoms. Assumes nothing.
use Rattle.chars.specs.Class.{is_in}
use Rattle.chars.specs.Parts.{is_atoms}
use Rattle.chars.proofs.parts.is_atoms.Goals as goal

pub returns : goal.returns
unfolding is_atoms is_in
returns c = c.is_parted.ensures
