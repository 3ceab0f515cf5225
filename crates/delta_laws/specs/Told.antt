-- Where the tasks stand and what they hold, by what is told of them, and by a journal's accounts.
use Rattle.std.specs.Prelude.{ℕ, ◌==◌, Bool, Option, Some, None, List, [], ◌∷◌, slice_get, if◌then◌else◌, is_some}
use Rattle.delta_laws.specs.Common.{ProgramText, Name, Task, MachineState, task_names, Ledger, heap_of, TaskNow, Delta, roots, standing_for, line_for}

-- the last that is told of a task counts
abbrev pub told : ℕ → Option TaskNow → List TaskNow → Option TaskNow
told t now [] = now
told t now (x ∷ xs) = told t (if x.task == t then Some x else now) xs

-- by deltas one after the other
abbrev pub told_by : ℕ → Option TaskNow → List Delta → Option TaskNow
told_by t now [] = now
told_by t now (d ∷ ds) = told_by t (told t now d.tasks) ds

-- where a task stands, with a worker or not, its line, and what it holds
abbrev pub stands_as : ProgramText → ℕ → Bool → Option Task → Option TaskNow
stands_as p t out None = None
stands_as p t out (Some x) = Some (record { task = t; standing = standing_for out x.status; line = line_for p x.top x.status; holds = roots x })

-- by the accounts, which know whether a worker holds it
abbrev pub stands : ProgramText → Ledger → ℕ → Option TaskNow
stands p l t = stands_as p t (is_some (heap_of l t).worker) (slice_get l.machine.tasks t)

-- ROOTS

-- what is told to be held
abbrev pub holds_told : Option TaskNow → List Name
holds_told None = []
holds_told (Some x) = x.holds

-- by the machine: what the registers of a task's frames hold or, once it has ended, its result
abbrev pub names_held : Option Task → List Name
names_held None = []
names_held (Some x) = task_names x

abbrev pub names_held_by : MachineState → ℕ → List Name
names_held_by m t = names_held (slice_get m.tasks t)
