use Rattle.run_race_laws.proofs.Told.{logs_tell_accesses}
use Rattle.run_race_laws.proofs.logs_tell_accesses.Goals as goal

pub returns : goal.returns
returns c = logs_tell_accesses
