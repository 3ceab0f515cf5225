use Rattle.run_limit_laws.proofs.Lines.{logs_are_within_limits}
use Rattle.run_limit_laws.proofs.logs_are_within_limits.Goals as goal

pub returns : goal.returns
returns c = logs_are_within_limits
