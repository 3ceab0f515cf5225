use Rattle.refinement.proofs.changes.Collect as proved
use Rattle.refinement.proofs.laws.collections_keep.Goals as goal

pub returns : goal.returns
returns c = proved.collected
