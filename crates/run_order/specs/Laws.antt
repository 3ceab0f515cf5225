-- What the order of a run's strands is right about.
use Rattle.std.specs.Prelude.{◌≡◌, ◌↔◌, ◌<◌, ℕ, true, length}
use Rattle.walk_laws.specs.Reached.{IsWalk}
use Rattle.fork_graph.specs.Graph.{tasks_in, StrandPrecedes, IsParent}
use Rattle.ancestor_laws.specs.Meeting.{IsLowestCommon}
use Rattle.log_walk.specs.Tables.{strand_at, task_at}
use Rattle.log_walk.specs.Value.{WalkValue, IsWalked}
use Rattle.race_cells.specs.Order.{StrandOrder, ExtendsPrecedence, MeetsAsInTree}
use Rattle.run_order.specs.Order.{run_order}

-- an order of the strands of a walk, by their places
pub record IsOrderOf (walk : WalkValue) (o : StrandOrder) : Type 0 where
  pub strands : o.strands ≡ length walk.order
  -- a walk along edges leads from one strand to the other
  pub before : (u v : ℕ) → u < length walk.order → v < length walk.order
      → ((o.before u v ≡ true) ↔ StrandPrecedes (tasks_in walk.tasks) (strand_at walk.order u) (strand_at walk.order v))
  -- so many spawns lead from the root to the lowest common ancestor of their tasks
  pub meeting : (u v q : ℕ) → u < length walk.order → v < length walk.order
      → IsLowestCommon (tasks_in walk.tasks) q (task_at walk.order u) (task_at walk.order v)
      → IsWalk (λ x. x ≡ 0) (IsParent (tasks_in walk.tasks)) (o.meeting u v) q

abbrev pub WalksHaveAnOrder : Type 0
WalksHaveAnOrder = (walk : WalkValue) → IsWalked walk → IsOrderOf walk (run_order walk) × ExtendsPrecedence (run_order walk) × MeetsAsInTree (run_order walk)
