use Rattle.refinement_laws.proofs.parts.WorkersPast as proved
use Rattle.refinement_laws.proofs.laws.sweeps_leave.Goals as goal

pub returns : goal.returns
returns c = proved.sweeps_leave
