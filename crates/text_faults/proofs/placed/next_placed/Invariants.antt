use Rattle.text_faults.proofs.Common.{◌≡◌, ◌≤◌, ◌-◌, length, placed_from}
use Rattle.text_faults.proofs.placed.next_placed.Given as goal

abbrev pub invariant-loop-at : goal.invariant-loop-at
invariant-loop-at l = record {
  value : placed_from l.line l.start ≡ placed_from l.line l.at;
  within : l.start ≤ length l.line;
}

abbrev pub decreases-loop-at : goal.decreases-loop-at
decreases-loop-at l = length l.line - l.start
