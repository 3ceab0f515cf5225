use Rattle.schedule_laws.proofs.Fields as proved
use Rattle.schedule_laws.proofs.laws.fields_stay.Goals as goal

pub returns : goal.returns
returns c = proved.fields_stay
