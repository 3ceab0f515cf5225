use Rattle.fork_graph.proofs.Common.{◌≡◌, ◌<◌, ◌^◌, ℕ, List, Some, length, slice_get, GraphTurn}
use Rattle.fork_graph.proofs.small.are_small.Given as goal

abbrev pub invariant-loop-task : goal.invariant-loop-task
invariant-loop-task l = (k : ℕ) (row : List GraphTurn) → k < l.task → slice_get l.tasks k ≡ Some row → length row < 2 ^ 32
