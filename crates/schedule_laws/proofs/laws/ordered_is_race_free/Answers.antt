use Rattle.schedule_laws.proofs.RaceFree as proved
use Rattle.schedule_laws.proofs.laws.ordered_is_race_free.Goals as goal

pub returns : goal.returns
returns c = proved.ordered_is_race_free
