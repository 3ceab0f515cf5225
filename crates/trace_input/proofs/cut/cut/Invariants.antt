use Rattle.trace_input.proofs.Common.{◌≡◌, ◌≤◌, ◌+◌, ◌-◌, ◌++◌, length, take, lines_of, lines_above, trace_lines, with_feeds}
use Rattle.trace_input.proofs.cut.cut.Given as goal

abbrev pub invariant-loop-lines : goal.invariant-loop-lines
invariant-loop-lines l = record {
  counted : length (lines_above (lines_of l.input)) + 1 ≡ length (lines_above (lines_of l.rest)) + l.number;
  traced : trace_lines (lines_of l.input) ≡ trace_lines (lines_of l.rest);
  fed : with_feeds (lines_above (lines_of l.input)) ≡ take (length l.input - length l.rest) l.input ++ with_feeds (lines_above (lines_of l.rest));
  parts : l.input ≡ take (length l.input - length l.rest) l.input ++ l.rest;
  within : l.number + length l.rest ≤ length l.input + 1;
}

abbrev pub decreases-loop-lines : goal.decreases-loop-lines
decreases-loop-lines l = length l.rest
