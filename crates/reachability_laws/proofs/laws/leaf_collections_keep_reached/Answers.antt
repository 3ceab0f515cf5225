use Rattle.reachability_laws.proofs.Kept as kept
use Rattle.reachability_laws.proofs.laws.leaf_collections_keep_reached.Goals as goal

pub returns : goal.returns
returns c = kept.leaf_collections_keep_reached
