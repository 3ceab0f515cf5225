use Rattle.fork_graph.proofs.Common.{length, tasks_in, strand, HasNoEarlier, AreStates}
use Rattle.fork_graph.proofs.fault.first_fault.Given as goal

abbrev pub invariant-loop-task : goal.invariant-loop-task
invariant-loop-task l = record {
  states : AreStates (tasks_in l.tasks) (length l.tasks) (strand l.task 0) l.states;
  none : HasNoEarlier l.tasks l.extent (strand l.task 0);
}
