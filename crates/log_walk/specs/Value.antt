-- A walked run as a value.
use Rattle.std.specs.Prelude.{◌≡◌, ◌<◌, List, length}
use Rattle.log_walk.specs.Common.{GraphTurn, GraphStrand, AreSmall, tasks_in, IsNested, SpawnsBelow, serial_order}

-- the turns of each task, and the strands in their serial order
pub record WalkValue : Type 0 where
  pub tasks : List (List GraphTurn)
  pub order : List GraphStrand

-- the tasks make a nested run, and its strands stand in their serial order
pub record IsWalked (walk : WalkValue) : Type 0 where
  pub small : AreSmall walk.tasks
  pub nested : IsNested (tasks_in walk.tasks)
  pub below : SpawnsBelow (tasks_in walk.tasks) (length walk.tasks)
  pub some : 0 < length walk.tasks
  pub order : walk.order ≡ serial_order (tasks_in walk.tasks) (length walk.tasks)
