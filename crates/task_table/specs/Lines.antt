-- The line of a task.
use Rattle.std.specs.Prelude.{ℕ, ℤ, ◌==◌, Option, Some, None, List, [], ◌∷◌, ◌++◌, codes, length, slice_get, if◌then◌else◌}
use Rattle.std.specs.Fmt.{decimal, signed_decimal}
use Rattle.task_table.specs.Common.{ProgramText, Object, TaskStatus, Running, Waiting, Ended, Joined, Trapped, Entangled, Task, MachineState, row_of, RunEnd, Machine, raised_by, function_name}
use Rattle.task_table.specs.declared.row.ForkOrigin.{ForkOrigin}
use Rattle.task_table.specs.declared.row.TaskRow.{TaskRow}

-- a value behind a comma; one that isn't there is empty
abbrev pub field : List ℕ → List ℕ
field value = 44 ∷ value

abbrev pub number_field : ℕ → List ℕ
number_field n = field (decimal n)

abbrev pub maybe_field : Option ℕ → List ℕ
maybe_field None = field []
maybe_field (Some n) = number_field n

abbrev pub signed_field : Option ℤ → List ℕ
signed_field None = field []
signed_field (Some k) = field (signed_decimal k)

-- the line and the function of the fork, and the number of a parallel loop
abbrev pub fork_fields : ProgramText → Option ForkOrigin → List ℕ
fork_fields p None = codes ",,,"
fork_fields p (Some f) = number_field f.line ++ field (function_name p f.function) ++ signed_field f.number

-- what its objects came to
abbrev pub words_onto : ℕ → List Object → ℕ
words_onto n [] = n
words_onto n (o ∷ os) = words_onto (raised_by (raised_by (raised_by n 2) (length o.refs)) (length o.ints)) os

-- HOW IT ENDED

abbrev pub status_word : TaskStatus → List ℕ
status_word Running = codes "running"
status_word Waiting = codes "waiting"
status_word (Ended k n) = codes "ended"
status_word Joined = codes "joined"

-- a task that ended the run by a trap, or by a read that was stopped
abbrev pub end_word : Option RunEnd → ℕ → TaskStatus → List ℕ
end_word (Some (Machine (Trapped trap u line))) t s = if u == t then codes "trap" else status_word s
end_word (Some (Machine (Entangled u owner))) t s = if u == t then codes "entangled" else status_word s
end_word _ t s = status_word s

-- THE LINE

abbrev pub place_fields : ProgramText → ℕ → Task → TaskRow → List ℕ
place_fields p t x r = decimal t ++ maybe_field x.parent ++ fork_fields p r.fork ++ number_field x.depth

abbrev pub work_fields : TaskRow → List ℕ
work_fields r = maybe_field r.worker ++ number_field r.entries ++ number_field r.steps

abbrev pub memory_fields : List Object → TaskRow → List ℕ
memory_fields os r = number_field (length os) ++ number_field (words_onto 0 os) ++ number_field r.dropped

abbrev pub task_line : ProgramText → MachineState → Option RunEnd → ℕ → Task → TaskRow → List ℕ
task_line p m end t x r =
    place_fields p t x r ++ work_fields r ++ memory_fields (row_of (slice_get m.store t)) r ++ field (end_word end t x.status) ++ 10 ∷ []
