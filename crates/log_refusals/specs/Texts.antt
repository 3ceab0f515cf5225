-- The lines that refuse a log.
use Rattle.std.specs.Prelude.{ℕ, Option, Some, None, List, [], ◌++◌, codes, slice_index_or}
use Rattle.std.specs.Fmt.{decimal}
use Rattle.log_form.specs.declared.fault.LocatedFault.{LocatedFault}
use Rattle.log_form.specs.declared.fault.LogPosition.{LogPosition}
use Rattle.log_tasks.specs.declared.fault.TaskFault.{TaskFault}
use Rattle.log_refusals.specs.Placed.{last_line}
use Rattle.log_refusals.specs.Causes.{text_of_fault, text_of_task_cause}

-- the name of a file and the number of the line in it, if there is a line
abbrev pub place_text : List (List ℕ) → Option LogPosition → List ℕ
place_text names None = []
place_text names (Some at) = codes " " ++ slice_index_or names at.file [] ++ codes " line " ++ decimal at.line

-- a line, and its fault
abbrev pub line_refusal : List (List ℕ) → LocatedFault → List ℕ
line_refusal names found = codes "end: log refused" ++ place_text names (Some found.at) ++ codes ": " ++ text_of_fault found.fault ++ codes "\n"

-- a task and what it does wrong, at the last line that says what the strand at fault does
abbrev pub task_refusal : List (List ℕ) → List (List ℕ) → TaskFault → List ℕ
task_refusal names texts fault =
    codes "end: log refused" ++ place_text names (last_line texts fault.strand) ++ codes ": task " ++ decimal fault.strand.task ++ codes " " ++ text_of_task_cause fault.cause ++ codes "\n"
