use Rattle.schedule_laws.proofs.Example as proved
use Rattle.schedule_laws.proofs.laws.some_run_speaks_up.Goals as goal

pub returns : goal.returns
returns c = proved.some_run_speaks_up
