use Rattle.log_lines.proofs.Common.{IfOk, sym, subst, IsLine}
use Rattle.log_lines.proofs.Within.{lines_within}
use Rattle.log_lines.proofs.read.read_line.Goals as goal

pub returns-clause-within : goal.returns-clause-within
returns-clause-within c = subst (λ r. IfOk r IsLine) (sym c.line_of.ensures) (lines_within c.args.line.now)
