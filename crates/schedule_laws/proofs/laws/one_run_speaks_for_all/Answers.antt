use Rattle.schedule_laws.proofs.Schedules as proved
use Rattle.schedule_laws.proofs.laws.one_run_speaks_for_all.Goals as goal

pub returns : goal.returns
returns c = proved.one_run_speaks_for_all
