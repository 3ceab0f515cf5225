use Rattle.mark_sweep_gc.specs.MarkingValue.{IsOf}
use Rattle.memory_scenes.proofs.sweeping.mark_all.Given as goal

abbrev pub invariant-loop-calls : goal.invariant-loop-calls
invariant-loop-calls l = IsOf l.heap.chunks l.kept l.marking
