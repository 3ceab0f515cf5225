use Rattle.run_limit_laws.proofs.Lines.{logs_tell_runs}
use Rattle.run_limit_laws.proofs.logs_tell_runs.Goals as goal

pub returns : goal.returns
returns c = logs_tell_runs
