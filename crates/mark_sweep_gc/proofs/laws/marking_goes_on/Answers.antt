use Rattle.mark_sweep_gc.proofs.GoingOn.{marking_goes_on}
use Rattle.mark_sweep_gc.proofs.laws.marking_goes_on.Goals as goal

pub returns : goal.returns
returns c = marking_goes_on
