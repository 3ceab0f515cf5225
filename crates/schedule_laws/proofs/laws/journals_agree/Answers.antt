use Rattle.schedule_laws.proofs.RaceFree as proved
use Rattle.schedule_laws.proofs.laws.journals_agree.Goals as goal

pub returns : goal.returns
returns c = proved.journals_agree
