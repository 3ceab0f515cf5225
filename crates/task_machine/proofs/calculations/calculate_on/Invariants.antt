use Rattle.task_machine.proofs.Common.{◌≡◌, FrameLeads}
use Rattle.task_machine.proofs.calculations.calculate_on.Given as goal

abbrev pub invariant-loop-done : goal.invariant-loop-done
invariant-loop-done l = record {
  leads : FrameLeads l.initial.program l.initial.frame l.done l.frame;
  function : l.frame.function ≡ l.initial.frame.function;
}
