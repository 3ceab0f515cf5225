use Rattle.run_trace.proofs.Common.{◌≡◌, ◌++◌, ◌≤◌, ◌+◌, length, lines_of, first_bad, entries_in}
use Rattle.run_trace.proofs.trace.read_entries.Given as goal

abbrev pub invariant-loop-entries : goal.invariant-loop-entries
invariant-loop-entries l =
    (l.entries ++ entries_in (lines_of l.rest) ≡ entries_in (lines_of l.text))
    × (first_bad l.number (lines_of l.rest) ≡ first_bad l.first_line (lines_of l.text))
    × (l.number + length l.rest ≤ l.first_line + length l.text)

abbrev pub decreases-loop-entries : goal.decreases-loop-entries
decreases-loop-entries l = length l.rest
