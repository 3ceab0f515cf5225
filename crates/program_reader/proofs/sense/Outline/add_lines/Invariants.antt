use Rattle.program_reader.proofs.Common.{◌≡◌, ◌≤◌, ◌+◌, ◌-◌, length, lines_of, outline_onto, outline_of}
use Rattle.program_reader.proofs.Outlines.{IsShort}
use Rattle.program_reader.proofs.sense.Outline.add_lines.Given as goal

abbrev pub invariant-loop-rest : goal.invariant-loop-rest
invariant-loop-rest l = record {
  value : outline_onto l.number l.self (lines_of l.rest) ≡ outline_of l.text;
  above : l.number + length l.rest ≤ length l.text + 1;
  short : IsShort l.self (l.number - 1);
  counted : 1 ≤ l.number;
}

abbrev pub decreases-loop-rest : goal.decreases-loop-rest
decreases-loop-rest l = length l.rest
