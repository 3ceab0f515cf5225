use Rattle.log_tasks.proofs.Common.{◌≡◌, ◌-◌, ◌++◌, length, drop, nat_eq, contains, joins_for}
use Rattle.log_tasks.proofs.graph.with_joins.Given as goal

abbrev pub invariant-loop-place : goal.invariant-loop-place
invariant-loop-place l = l.turns ≡ l.fn.row ++ joins_for (contains nat_eq l.joined) (drop (length l.fn.row - l.place) l.fn.row)
