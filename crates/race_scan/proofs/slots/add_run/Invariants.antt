use Rattle.race_scan.proofs.Common.{◌-◌, ◌≤◌, run_start, AreUpto}
use Rattle.race_scan.proofs.slots.add_run.Given as goal

abbrev pub invariant-loop-at : goal.invariant-loop-at
invariant-loop-at l = record {
  from : run_start l.region l.run ≤ l.at;
  upto : l.at ≤ l.end;
  slots : AreUpto l.numbers l.region l.at l.slots.items;
}

abbrev pub decreases-loop-at : goal.decreases-loop-at
decreases-loop-at l = l.end - l.at
