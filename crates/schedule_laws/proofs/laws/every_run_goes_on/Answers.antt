use Rattle.schedule_laws.proofs.CanGoOn as proved
use Rattle.schedule_laws.proofs.laws.every_run_goes_on.Goals as goal

pub returns : goal.returns
returns c = proved.every_run_goes_on
