use Rattle.schedule_laws.proofs.Schedules as proved
use Rattle.schedule_laws.proofs.laws.every_end_agrees.Goals as goal

pub returns : goal.returns
returns c = proved.every_end_agrees
