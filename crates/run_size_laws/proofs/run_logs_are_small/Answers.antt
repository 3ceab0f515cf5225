use Rattle.run_size_laws.proofs.RunSizes.{run_logs_are_small}
use Rattle.run_size_laws.proofs.run_logs_are_small.Goals as goal

pub returns : goal.returns
returns c = run_logs_are_small
