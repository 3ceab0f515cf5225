use Rattle.program_reader.proofs.Common.{◌≡◌, ◌++◌, drop, loops_from}
use Rattle.program_reader.proofs.loops.add_loops.Given as goal

abbrev pub invariant-loop-place : goal.invariant-loop-place
invariant-loop-place l = l.functions ++ loops_from l.outline l.place (drop l.place l.outline.loops) ≡ l.initial.functions ++ loops_from l.outline 0 l.outline.loops
