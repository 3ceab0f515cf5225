use Rattle.trace_input.proofs.Common.{◌≡◌, ◌≤◌, ◌+◌, length, lines_of}
use Rattle.trace_input.proofs.input.count_lines.Given as goal

abbrev pub invariant-loop-below : goal.invariant-loop-below
invariant-loop-below l = record {
  counted : length (lines_of l.text) + 1 ≡ length (lines_of l.rest) + l.count;
  within : l.count + length l.rest ≤ length l.text + 1;
}

abbrev pub decreases-loop-below : goal.decreases-loop-below
decreases-loop-below l = length l.rest
