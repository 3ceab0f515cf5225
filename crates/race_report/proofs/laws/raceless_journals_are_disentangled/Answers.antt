use Rattle.race_report.proofs.Raceless.{raceless_journals_are_disentangled}
use Rattle.race_report.proofs.laws.raceless_journals_are_disentangled.Goals as goal

pub returns : goal.returns
returns c = raceless_journals_are_disentangled
