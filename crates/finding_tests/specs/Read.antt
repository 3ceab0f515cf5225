-- Logs that were read.
use Rattle.std.specs.Prelude.{◌≡◌, ℕ, None, List}
use Rattle.fork_graph.specs.declared.fault.Extent.{Extent}
use Rattle.log_form.specs.Events.{events_of}
use Rattle.log_form.specs.Faults.{log_fault}
use Rattle.log_pieces.specs.declared.piece.LogPiece.{LogPiece}
use Rattle.log_pieces.specs.Pieces.{events_of_pieces}
use Rattle.log_tasks.specs.declared.tasks.LogTasks.{LogTasks}
use Rattle.log_tasks.specs.Rows.{AreNestedTasks}
use Rattle.log_tasks.specs.Log.{IsLog}

-- a log without a fault, its pieces and its tasks
pub record IsLogRead (texts : List (List ℕ)) (pieces : List LogPiece) (tasks : LogTasks) : Type 0 where
  pub cut : events_of_pieces texts pieces ≡ events_of texts
  pub whole : log_fault texts ≡ None
  pub extent : Extent
  pub log : IsLog (events_of texts) extent tasks
  pub nested : AreNestedTasks tasks.turns
