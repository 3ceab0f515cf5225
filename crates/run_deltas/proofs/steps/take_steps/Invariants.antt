use Rattle.run_deltas.proofs.Common.{◌≡◌, stepped, changes}
use Rattle.run_deltas.proofs.steps.take_steps.Given as goal

abbrev pub invariant-loop-i : goal.invariant-loop-i
invariant-loop-i l = record {
  program : l.machine.program ≡ l.program;
  state : l.machine.state ≡ stepped l.program l.initial.machine.state l.t l.i;
  done : l.done ≡ changes l.program l.initial.machine.state l.t l.i;
}
