use Rattle.race_scan.proofs.Common.{[], sym, subst, HasScanned}
use Rattle.race_scan.proofs.Scanning.{none_seen}
use Rattle.race_scan.proofs.scan.RaceScan.new.Goals as goal

pub returns : goal.returns
returns c = λ o. subst (HasScanned o c.args.numbers.now []) (sym c.in_ok-new.ensures) (none_seen o c.args.numbers.now c.len.result c.len.ensures)
