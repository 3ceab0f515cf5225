use Rattle.refinement_laws.proofs.parts.Workers as proved
use Rattle.refinement_laws.proofs.laws.ran_leaves.Goals as goal

pub returns : goal.returns
returns c = proved.ran_leaves
