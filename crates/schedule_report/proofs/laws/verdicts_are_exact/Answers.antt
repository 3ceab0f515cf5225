use Rattle.schedule_report.proofs.Verdicts.{verdicts_are_exact}
use Rattle.schedule_report.proofs.laws.verdicts_are_exact.Goals as goal

pub returns : goal.returns
returns c = verdicts_are_exact
