use Rattle.refinement.proofs.changes.Fork as proved
use Rattle.refinement.proofs.laws.forks_keep.Goals as goal

pub returns : goal.returns
returns c = proved.forked_stands
