use Rattle.refinement_laws.proofs.parts.WorkersPast as proved
use Rattle.refinement_laws.proofs.laws.ends_leave.Goals as goal

pub returns : goal.returns
returns c = proved.ends_leave
