use Rattle.race_cells.proofs.Continuing.{scans_go_on}
use Rattle.race_cells.proofs.laws.scans_go_on.Goals as goal

pub returns : goal.returns
returns c = scans_go_on
