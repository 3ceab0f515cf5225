use Rattle.log_lines.proofs.Within.{lines_within}
use Rattle.log_lines.proofs.laws.lines_are_within_limits.Goals as goal

pub returns : goal.returns
returns c = lines_within
