use Rattle.log_walk.proofs.Common.{◌<◌, length, depth_at, tasks_in, IsAncestor, task_at}
use Rattle.log_walk.proofs.tables.climb.Given as goal

abbrev pub invariant-loop-up : goal.invariant-loop-up
invariant-loop-up l = record {
  there : l.at < length l.tables.order;
  above : IsAncestor (tasks_in l.tasks) (task_at l.tables.order l.at) (task_at l.tables.order l.place);
  apart : IsAncestor (tasks_in l.tasks) (task_at l.tables.order l.at) (task_at l.tables.order l.target) → ⊥;
}

abbrev pub decreases-loop-up : goal.decreases-loop-up
decreases-loop-up l = depth_at l.tables.links.items l.at
