use Rattle.run_log_laws.proofs.Runs.{walks_agree}
use Rattle.run_log_laws.proofs.walks_agree.Goals as goal

pub returns : goal.returns
returns c = walks_agree
