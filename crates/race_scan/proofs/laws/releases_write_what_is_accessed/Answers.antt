use Rattle.race_scan.proofs.Releasing.{releases_write}
use Rattle.race_scan.proofs.laws.releases_write_what_is_accessed.Goals as goal

pub returns : goal.returns
returns c = releases_write
