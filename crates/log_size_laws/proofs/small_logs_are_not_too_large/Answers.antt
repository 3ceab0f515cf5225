use Rattle.log_size_laws.proofs.Small.{small_logs_are_not_too_large}
use Rattle.log_size_laws.proofs.small_logs_are_not_too_large.Goals as goal

pub returns : goal.returns
returns c = small_logs_are_not_too_large
