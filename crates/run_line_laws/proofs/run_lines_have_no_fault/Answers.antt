use Rattle.run_line_laws.proofs.Texts.{run_lines_have_no_fault}
use Rattle.run_line_laws.proofs.run_lines_have_no_fault.Goals as goal

pub returns : goal.returns
returns c = run_lines_have_no_fault
