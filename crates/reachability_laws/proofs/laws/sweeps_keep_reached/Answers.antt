use Rattle.reachability_laws.proofs.Kept as kept
use Rattle.reachability_laws.proofs.laws.sweeps_keep_reached.Goals as goal

pub returns : goal.returns
returns c = kept.sweeps_keep_reached
