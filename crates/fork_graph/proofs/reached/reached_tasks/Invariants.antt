use Rattle.fork_graph.proofs.Common.{length, tasks_in}
use Rattle.fork_graph.proofs.SpawnSearch.{IsSearched, left}
use Rattle.fork_graph.proofs.reached.reached_tasks.Given as goal

abbrev pub invariant-loop-task : goal.invariant-loop-task
invariant-loop-task l = IsSearched (tasks_in l.tasks) (length l.tasks) l.search

abbrev pub decreases-loop-task : goal.decreases-loop-task
decreases-loop-task l = left l.search
