use Rattle.told_race_laws.proofs.ToldRaces.{log_races_are_told}
use Rattle.told_race_laws.proofs.log_races_are_told.Goals as goal

pub returns : goal.returns
returns c = log_races_are_told
