use Rattle.mark_sweep_gc.proofs.Kept as kept
use Rattle.mark_sweep_gc.proofs.laws.swept_are_read.Goals as goal

pub returns : goal.returns
returns c = kept.swept_are_read
