-- What the entries of a journal tell of each task. Sums have 64 bits, and the last value stays.
use Rattle.std.specs.Prelude.{ℕ, ℤ, pos, ◌+◌, ◌-◌, ◌^◌, ◌==◌, Option, Some, None, List, [], ◌∷◌, ◌++◌, length, min, slice_get, slice_set, if◌then◌else◌}
use Rattle.std.specs.Int.{int_wrapping_add, int_wrapping_sub, w64}
use Rattle.std.specs.Prelude.{int_div}
use Rattle.task_table.specs.Common.{ProgramText, Frame, Task, MachineState, int_in, Kind, Took, Ran, Chunk, Begin, End, PutOff, Mark, More, Sweep, Fuel, EntryValue, SettingsValue, Ledger, after, cleared_words, function_name, fork_line, raised_by}
use Rattle.task_table.specs.declared.row.ForkOrigin.{ForkOrigin}
use Rattle.task_table.specs.declared.row.TaskRow.{TaskRow}

-- FORKS

-- a parallel loop over f goes over its numbers by `f<` for the first half and `f>` for the second: the number where a
-- half begins, by the last byte of the function's name and the numbers at the fork
abbrev pub half_begin : Option ℕ → ℤ → ℤ → Option ℤ
half_begin None first past = None
half_begin (Some c) first past =
    if c == 60 then Some first
    else if c == 62 then Some (int_wrapping_add w64 first (int_div (int_wrapping_sub w64 past first) (pos 2)))
    else None

abbrev pub last_byte : List ℕ → Option ℕ
last_byte name = slice_get name (length name - 1)

abbrev pub loop_number : ProgramText → Frame → Option ℤ
loop_number p f = half_begin (last_byte (function_name p f.function)) (int_in f 0) (int_in f 1)

abbrev pub made_by : ProgramText → ℕ → Option Task → Option ForkOrigin
made_by p line None = None
made_by p line (Some y) = Some (record { line = line; function = y.top.function; number = loop_number p y.top })

-- the fork by which the task u has just been made, whose parent is t
abbrev pub fork_of : ProgramText → MachineState → ℕ → ℕ → Option ForkOrigin
fork_of p m t u = made_by p (fork_line p (slice_get m.tasks t)) (slice_get m.tasks u)

-- ROWS

-- a task that no entry has told of
abbrev pub fresh_row : Option ForkOrigin → TaskRow
fresh_row f = record { fork = f; worker = None; entries = 0; steps = 0; dropped = 0 }

abbrev pub first_set : Option ℕ → ℕ → Option ℕ
first_set None w = Some w
first_set (Some v) w = Some v

-- an entry more
abbrev pub entered : TaskRow → TaskRow
entered r = record r { entries = raised_by r.entries 1 }

-- what an entry of a worker, with which the heap lost so many words, tells of its task
abbrev pub row_after : ℕ → ℕ → Kind → TaskRow → TaskRow
row_after w lost (Took t) r = record (entered r) { worker = first_set r.worker w }
row_after w lost (Ran t k) r = record (entered r) { steps = raised_by r.steps k }
row_after w lost (End t taken given left) r = record (entered r) { dropped = raised_by r.dropped lost }
row_after w lost (Sweep t given) r = record (entered r) { dropped = raised_by r.dropped lost }
row_after w lost _ r = entered r

-- the task that an entry tells of
abbrev pub task_in : Kind → Option ℕ
task_in (Took t) = Some t
task_in (Ran t k) = Some t
task_in (Chunk t) = Some t
task_in (Begin t) = Some t
task_in (End t taken given left) = Some t
task_in (PutOff t) = Some t
task_in (Mark t) = Some t
task_in (More t n) = Some t
task_in (Sweep t given) = Some t
task_in Fuel = None

abbrev pub with_row : List TaskRow → ℕ → (TaskRow → TaskRow) → Option TaskRow → List TaskRow
with_row rows t f None = rows
with_row rows t f (Some r) = slice_set rows t (f r)

abbrev pub rows_after : List TaskRow → ℕ → ℕ → Kind → Option ℕ → List TaskRow
rows_after rows w lost kind None = rows
rows_after rows w lost kind (Some t) = with_row rows t (row_after w lost kind) (slice_get rows t)

-- the rows of the children that a task has just forked
abbrev pub children : ProgramText → MachineState → ℕ → ℕ → Option ℕ → List TaskRow
children p m made now None = []
children p m made now (Some t) = if now == made then [] else fresh_row (fork_of p m t made) ∷ (fresh_row (fork_of p m t (made + 1)) ∷ [])

-- the rows behind an entry, in front of which so many tasks were made, and with which the heap lost so many words
abbrev pub rows_by : ProgramText → MachineState → ℕ → ℕ → EntryValue → List TaskRow → List TaskRow
rows_by p m made lost e rows = rows_after rows e.worker lost e.kind (task_in e.kind) ++ children p m made (length m.tasks) (task_in e.kind)

-- by the accounts in front of it and behind it
abbrev pub rows_with : ProgramText → Ledger → Ledger → EntryValue → List TaskRow → List TaskRow
rows_with p before behind e rows =
    rows_by p behind.machine (length before.machine.tasks) (cleared_words before e.kind - cleared_words behind e.kind) e rows

-- the rows behind a journal
abbrev pub rows_from : ProgramText → SettingsValue → Ledger → List TaskRow → List EntryValue → List TaskRow
rows_from p s l rows [] = rows
rows_from p s l rows (e ∷ es) = rows_from p s (after p s l e) (rows_with p l (after p s l e) e rows) es
