-- The tasks of a log.
use Rattle.std.specs.Prelude.{◌≡◌, List, length, map}
use Rattle.log_tasks.specs.Common.{GraphTurn, Extent, Event}
use Rattle.log_tasks.specs.declared.tasks.LogTasks.{LogTasks}
use Rattle.log_tasks.specs.Numbers.{AreNumbers}
use Rattle.log_tasks.specs.Rows.{AreRows, AreNestedTasks, graph_of}
use Rattle.log_tasks.specs.Faults.{HasNoneBelow}

-- the tasks are those of the log, no task of which has a fault; they make a nested run
pub record IsLog (events : List Event) (extent : Extent) (log : LogTasks) : Type 0 where
  -- the turns that the log tells
  pub rows : List (List GraphTurn)
  pub numbers_are : AreNumbers events log.numbers
  pub rows_are : AreRows events log.numbers rows
  pub sound : HasNoneBelow events extent log.numbers rows (length rows)
  pub turns_are : log.turns ≡ graph_of extent rows
  pub known_are : log.known ≡ map length rows
  pub nested : AreNestedTasks log.turns
