use Rattle.schedule_laws.proofs.Leaving as proved
use Rattle.schedule_laws.proofs.laws.steps_leave_steps.Goals as goal

pub returns : goal.returns
returns c = proved.steps_leave_steps
