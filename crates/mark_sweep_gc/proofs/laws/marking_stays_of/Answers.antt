use Rattle.mark_sweep_gc.proofs.GoingOn.{marking_stays_of}
use Rattle.mark_sweep_gc.proofs.laws.marking_stays_of.Goals as goal

pub returns : goal.returns
returns c = marking_stays_of
