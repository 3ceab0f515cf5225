use Rattle.run_race_laws.proofs.Races.{logs_tell_fields}
use Rattle.run_race_laws.proofs.logs_tell_fields.Goals as goal

pub returns : goal.returns
returns c = logs_tell_fields
