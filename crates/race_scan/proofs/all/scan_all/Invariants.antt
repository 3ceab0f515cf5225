use Rattle.race_scan.proofs.Common.{take, HasScanned}
use Rattle.race_scan.proofs.all.scan_all.Given as goal

abbrev pub invariant-loop-touch : goal.invariant-loop-touch
invariant-loop-touch g l = HasScanned (g.S.Strands.order l.order) l.numbers (take l.touch-index l.touches) l.scan
