use Rattle.mark_sweep_gc.proofs.Kept as kept
use Rattle.mark_sweep_gc.proofs.laws.swept_is_snapshot.Goals as goal

pub returns : goal.returns
returns c = kept.swept_is_snapshot
