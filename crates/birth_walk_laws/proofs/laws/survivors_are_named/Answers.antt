use Rattle.birth_walk_laws.proofs.Carried as carried
use Rattle.birth_walk_laws.proofs.laws.survivors_are_named.Goals as goal

pub returns : goal.returns
returns c = carried.survivors
