use Rattle.told_birth_laws.proofs.ToldBirths.{log_births_are_told}
use Rattle.told_birth_laws.proofs.log_births_are_told.Goals as goal

pub returns : goal.returns
returns c = log_births_are_told
