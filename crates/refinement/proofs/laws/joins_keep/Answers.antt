use Rattle.refinement.proofs.changes.Join as proved
use Rattle.refinement.proofs.laws.joins_keep.Goals as goal

pub returns : goal.returns
returns c = proved.joined_stands
