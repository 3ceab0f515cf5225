use Rattle.run_answer_laws.proofs.Answers.{run_logs_are_reported}
use Rattle.run_answer_laws.proofs.run_logs_are_reported.Goals as goal

pub returns : goal.returns
returns c = run_logs_are_reported
