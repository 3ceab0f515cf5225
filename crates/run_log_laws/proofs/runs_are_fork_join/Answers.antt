use Rattle.run_log_laws.proofs.Whole.{runs_are_fork_join}
use Rattle.run_log_laws.proofs.runs_are_fork_join.Goals as goal

pub returns : goal.returns
returns c = runs_are_fork_join
