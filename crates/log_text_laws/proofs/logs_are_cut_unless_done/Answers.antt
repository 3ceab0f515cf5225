use Rattle.log_text_laws.proofs.Logs.{logs_cut}
use Rattle.log_text_laws.proofs.logs_are_cut_unless_done.Goals as goal

pub returns : goal.returns
returns c = logs_cut
