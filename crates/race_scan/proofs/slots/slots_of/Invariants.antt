use Rattle.race_scan.proofs.Common.{run_start, AreUpto}
use Rattle.race_scan.proofs.slots.slots_of.Given as goal

abbrev pub invariant-loop-run : goal.invariant-loop-run
invariant-loop-run l = AreUpto l.numbers l.region (run_start l.region l.run) l.slots.items
