use Rattle.log_text_laws.proofs.Logs.{logs_again}
use Rattle.log_text_laws.proofs.logs_are_read_again.Goals as goal

pub returns : goal.returns
returns c = logs_again
