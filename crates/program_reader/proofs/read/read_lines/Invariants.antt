use Rattle.program_reader.proofs.Common.{◌≤◌, ◌+◌, length, lines_of}
use Rattle.program_reader.proofs.Rounds.{IsReading}
use Rattle.program_reader.proofs.read.read_lines.Given as goal

abbrev pub invariant-loop-cause : goal.invariant-loop-cause
invariant-loop-cause l = record {
  reading : IsReading l.outline l.text l.reader l.number (lines_of l.rest);
  fits : l.number + length l.rest ≤ length l.text + 1;
}

abbrev pub decreases-loop-cause : goal.decreases-loop-cause
decreases-loop-cause l = length l.rest
