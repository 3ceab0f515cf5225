-- The table of the tasks of a run.
use Rattle.std.specs.Prelude.{ℕ, ◌+◌, Option, Some, None, List, [], ◌∷◌, ◌++◌, codes, slice_get}
use Rattle.task_table.specs.Common.{ProgramText, Task, EntryValue, SettingsValue, Ledger, opening, ledger_of}
use Rattle.task_table.specs.declared.row.TaskRow.{TaskRow}
use Rattle.task_table.specs.Rows.{fresh_row, rows_from}
use Rattle.task_table.specs.Lines.{task_line}

abbrev pub first_line : List ℕ
first_line = codes "task,parent,line,function,number,depth,worker,entries,steps,objects,words,dropped,end\n"

abbrev pub task_row_line : ProgramText → Ledger → ℕ → Option Task → TaskRow → List ℕ
task_row_line p l t None r = []
task_row_line p l t (Some x) r = task_line p l.machine l.end t x r

-- the lines of the tasks from t on
abbrev pub task_row_lines : ProgramText → Ledger → ℕ → List TaskRow → List ℕ
task_row_lines p l t [] = []
task_row_lines p l t (r ∷ rs) = task_row_line p l t (slice_get l.machine.tasks t) r ++ task_row_lines p l (t + 1) rs

-- a line for each task; the first task is there from the beginning
abbrev pub rows_of : ProgramText → SettingsValue → List EntryValue → List TaskRow
rows_of p s journal = rows_from p s (opening p s) (fresh_row None ∷ []) journal

abbrev pub table : ProgramText → SettingsValue → List EntryValue → List ℕ
table p s journal = first_line ++ task_row_lines p (ledger_of p s journal) 0 (rows_of p s journal)
