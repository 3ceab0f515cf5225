use Rattle.text_faults.proofs.Common.{◌≡◌, ◌≤◌, ◌+◌, ◌++◌, length, lines_of, faults_from, faults_of}
use Rattle.text_faults.proofs.text.add_all.Given as goal

abbrev pub invariant-loop-below : goal.invariant-loop-below
invariant-loop-below l = record {
  value : l.faults ++ faults_from l.walk l.number (lines_of l.rest) ≡ l.initial.faults ++ faults_of l.text;
  fits : l.number + length l.rest ≤ length l.text + 1;
  begun : l.walk.begun ≤ l.number;
  orders : l.walk.orders ≤ l.number;
}

abbrev pub decreases-loop-below : goal.decreases-loop-below
decreases-loop-below l = length l.rest
