use Rattle.ancestor_laws.proofs.Serial as proved
use Rattle.ancestor_laws.proofs.levels_are_few.Goals as goal

pub returns : goal.returns
returns c = proved.levels_are_few
