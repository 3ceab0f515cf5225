use Rattle.race_cells.proofs.Exactness.{scan_is_exact}
use Rattle.race_cells.proofs.laws.scan_is_exact.Goals as goal

pub returns : goal.returns
returns c = scan_is_exact
