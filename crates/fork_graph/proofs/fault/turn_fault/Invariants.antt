use Rattle.fork_graph.proofs.Common.{length, tasks_in, strand, HasNoEarlier, AreStates}
use Rattle.fork_graph.proofs.fault.turn_fault.Given as goal

abbrev pub invariant-loop-index : goal.invariant-loop-index
invariant-loop-index l = record {
  states : AreStates (tasks_in l.tasks) (length l.tasks) (strand l.task l.index) l.states;
  none : HasNoEarlier l.tasks l.fn.extent (strand l.task l.index);
}
