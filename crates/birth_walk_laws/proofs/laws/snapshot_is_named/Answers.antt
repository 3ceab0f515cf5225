use Rattle.birth_walk_laws.proofs.Carried as carried
use Rattle.birth_walk_laws.proofs.laws.snapshot_is_named.Goals as goal

pub returns : goal.returns
returns c = carried.snapshot
