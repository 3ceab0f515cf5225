use Rattle.path_laws.proofs.Objects as proved
use Rattle.path_laws.proofs.laws.outputs_grow.Goals as goal

pub returns : goal.returns
returns c = proved.outputs_grow
