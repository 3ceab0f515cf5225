-- The names that tasks and objects hold, and the words that a step allocates.
use Rattle.std.specs.Prelude.{ℕ, ◌+◌, Option, Some, None, List, [], ◌∷◌, ◌++◌, length, slice_get}
use Rattle.hh_model.specs.Common.{Instr, Newm, Pack}
use Rattle.hh_model.specs.declared.data.Name.{Name}
use Rattle.hh_model.specs.declared.data.Object.{Object}
use Rattle.hh_model.specs.declared.data.Frame.{Frame}
use Rattle.hh_model.specs.declared.data.TaskStatus.{TaskStatus}
use Rattle.hh_model.specs.declared.data.TaskStatus.TheVariants.{Running, Waiting, Ended, Joined}
use Rattle.hh_model.specs.declared.data.Task.{Task}
use Rattle.hh_model.specs.Effect.{object_at, counts_in, int_in, row_of}

-- the names in a list of references
abbrev pub names_of_references : List (Option Name) → List Name
names_of_references [] = []
names_of_references (None ∷ refs) = names_of_references refs
names_of_references (Some n ∷ refs) = n ∷ names_of_references refs

abbrev pub refs_of : Option Object → List Name
refs_of None = []
refs_of (Some o) = names_of_references o.refs

-- the names in the reference fields of the object of a name
abbrev pub refs_at : List (List Object) → Name → List Name
refs_at store n = refs_of (object_at store n)

-- the names in the registers of frames
abbrev pub registers : List Frame → List Name
registers [] = []
registers (f ∷ fs) = names_of_references f.refs ++ registers fs

-- what a task holds: its frames' registers while it runs or waits, its result once it has ended, nothing once it has
-- joined
abbrev pub names_from : TaskStatus → List Frame → List Name
names_from Running frames = registers frames
names_from Waiting frames = registers frames
names_from (Ended k r) frames = names_of_references (r ∷ [])
names_from Joined frames = []

abbrev pub task_names : Task → List Name
task_names x = names_from x.status (x.top ∷ x.below)

-- the name of the next object of a task
abbrev pub next_name : ℕ → List (List Object) → Name
next_name t store = record { task = t; count = length (row_of (slice_get store t)) }

-- an object takes one word for each field, and two more
abbrev pub words_for : Option (ℕ × ℕ) → Option ℕ
words_for None = None
words_for (Some n) = Some (2 + n.0 + n.1)

-- the words that an instruction allocates, if it allocates
abbrev pub words_asked : ℕ → Frame → Instr → Option ℕ
words_asked limit f (Newm d a b) = words_for (counts_in limit (int_in f a) (int_in f b))
words_asked limit f (Pack d r i) = Some (2 + r + i)
words_asked limit f _ = None
