use Rattle.run_answer_laws.proofs.Reports.{reports_tell_runs}
use Rattle.run_answer_laws.proofs.reports_tell_runs.Goals as goal

pub returns : goal.returns
returns c = reports_tell_runs
