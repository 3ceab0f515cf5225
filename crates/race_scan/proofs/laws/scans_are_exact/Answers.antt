use Rattle.race_scan.proofs.Exact.{scans_are_exact}
use Rattle.race_scan.proofs.laws.scans_are_exact.Goals as goal

pub returns : goal.returns
returns c = scans_are_exact
