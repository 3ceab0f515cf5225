use Rattle.mark_sweep_gc.proofs.GoingOn.{snapshot_is_of_roots}
use Rattle.mark_sweep_gc.proofs.laws.snapshot_is_of_roots.Goals as goal

pub returns : goal.returns
returns c = snapshot_is_of_roots
