use Rattle.run_verdict_laws.proofs.Reported.{logs_report_races}
use Rattle.run_verdict_laws.proofs.logs_report_races.Goals as goal

pub returns : goal.returns
returns c = logs_report_races
