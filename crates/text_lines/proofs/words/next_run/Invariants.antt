use Rattle.text_lines.proofs.Common.{◌≡◌, ◌≤◌, length, runs_of}
use Rattle.text_lines.proofs.words.next_run.Given as goal

abbrev pub invariant-loop-rest : goal.invariant-loop-rest
invariant-loop-rest l = (runs_of l.rest ≡ runs_of l.line) × (length l.rest ≤ length l.line)

abbrev pub decreases-loop-rest : goal.decreases-loop-rest
decreases-loop-rest l = length l.rest
