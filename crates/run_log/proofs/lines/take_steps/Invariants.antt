use Rattle.run_log.proofs.Common.{◌≡◌, ◌++◌, stepped, all_written, steps_lines}
use Rattle.run_log.proofs.lines.take_steps.Given as goal

abbrev pub invariant-loop-i : goal.invariant-loop-i
invariant-loop-i l = record {
  program : l.machine.program ≡ l.program;
  state : l.machine.state ≡ stepped l.program l.initial.machine.state l.t l.i;
  text : l.text.items ≡ l.initial.text.items ++ all_written (steps_lines l.program l.initial.machine.state l.t l.i);
}
