use Rattle.log_lines.proofs.Again.{line_again}
use Rattle.log_lines.proofs.laws.lines_are_read_again.Goals as goal

pub returns : goal.returns
returns c = line_again
