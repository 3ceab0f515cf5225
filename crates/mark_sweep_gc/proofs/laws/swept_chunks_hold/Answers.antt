use Rattle.mark_sweep_gc.proofs.Kept as kept
use Rattle.mark_sweep_gc.proofs.laws.swept_chunks_hold.Goals as goal

pub returns : goal.returns
returns c = kept.swept_chunks_hold
