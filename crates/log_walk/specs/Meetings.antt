-- Where the ways of two strands meet, by the strands' places in an order.
use Rattle.std.specs.Prelude.{◌≡◌, ℕ, Some, List, slice_get}
use Rattle.log_walk.specs.Common.{IsWalk, GraphStrand, TaskTurns, strand, IsParent, IsLowestCommon, IsExit}
use Rattle.log_walk.specs.Tables.{strand_at, task_at}

-- the way of the first strand comes into the lowest common ancestor of its task and the second one's at this place
pub record IsExitAt (tasks : TaskTurns) (order : List GraphStrand) (first second place : ℕ) : Type 0 where
  pub task : ℕ
  pub index : ℕ
  pub lowest : IsLowestCommon tasks task (task_at order first) (task_at order second)
  pub exit : IsExit tasks task (strand_at order first) index
  pub at : slice_get order place ≡ Some (strand task index)

-- so many spawns lead from the root to the strand's task
abbrev pub IsDepthAt : TaskTurns → List GraphStrand → ℕ → ℕ → Type 0
IsDepthAt tasks order place depth = IsWalk (λ x. x ≡ 0) (IsParent tasks) depth (task_at order place)
