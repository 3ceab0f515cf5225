use Rattle.program_reader.proofs.Common.{◌≡◌, ◌≤◌, ◌+◌, length, lines_of, no_labels, labels_onto}
use Rattle.program_reader.proofs.labels.read_labels.Given as goal

abbrev pub invariant-loop-rest : goal.invariant-loop-rest
invariant-loop-rest l = record {
  value : labels_onto l.labels (lines_of l.rest) ≡ labels_onto no_labels (lines_of l.lines);
  counted : l.labels.next + length l.rest ≤ length l.lines;
}

abbrev pub decreases-loop-rest : goal.decreases-loop-rest
decreases-loop-rest l = length l.rest
