use Rattle.log_text_laws.proofs.Logs.{logs_told}
use Rattle.log_text_laws.proofs.logs_are_told_again.Goals as goal

pub returns : goal.returns
returns c = logs_told
