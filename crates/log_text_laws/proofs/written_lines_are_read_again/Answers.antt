use Rattle.log_text_laws.proofs.Lines.{written_again}
use Rattle.log_text_laws.proofs.written_lines_are_read_again.Goals as goal

pub returns : goal.returns
returns c = written_again
