use Rattle.schedule_laws.proofs.Commute as proved
use Rattle.schedule_laws.proofs.laws.steps_commute.Goals as goal

pub returns : goal.returns
returns c = proved.steps_commute
