-- Laws of what runs only add to: the store, the outputs and the tasks.
use Rattle.std.specs.Prelude.{◌≡◌, ℕ, ℤ, ◌+◌, ◌⊎◌, false, Some, List, ◌++◌, length, slice_get, Contains}
use Rattle.hh_model.specs.Common.{Instr, Putr, Puti, Freeze, Cas, Par, Line, ProgramText}
use Rattle.hh_model.specs.declared.data.Name.{Name}
use Rattle.hh_model.specs.declared.data.Object.{Object}
use Rattle.hh_model.specs.declared.data.Frame.{Frame}
use Rattle.hh_model.specs.declared.data.Task.{Task}
use Rattle.hh_model.specs.declared.data.MachineState.{MachineState}
use Rattle.hh_model.specs.Effect.{ref_in, object_at}
use Rattle.hh_model.specs.Names.{task_names}
use Rattle.hh_model.specs.Step.{fetched, step, run, run_from, child}

-- THE STORE

-- the instruction writes the object of this name, which its object register holds
abbrev pub IsWriteTo : Frame → Instr → Name → Type 0
IsWriteTo f (Putr o k v) n = ref_in f o ≡ Some n
IsWriteTo f (Puti o k v) n = ref_in f o ≡ Some n
IsWriteTo f (Freeze o) n = ref_in f o ≡ Some n
IsWriteTo f (Cas d o k e v) n = ref_in f o ≡ Some n
IsWriteTo f _ n = ⊥

-- the next instruction of a task
pub record IsNext (p : ProgramText) (m : MachineState) (t : ℕ) (x : Task) (line : Line) : Type 0 where
  pub task : slice_get m.tasks t ≡ Some x
  pub fetched : fetched p x.top ≡ Some line

-- the next instruction of a task writes the object of this name
abbrev pub WritesNext : ProgramText → MachineState → ℕ → Name → Type 0
WritesNext p m t n = (x : Task) × (line : Line) × IsNext p m t x line × IsWriteTo x.top line.instr n

-- an object and the same object later: the same strand and the same numbers of fields; once immutable it doesn't change
pub record StaysAs (old new : Object) : Type 0 where
  pub strand : new.strand ≡ old.strand
  pub refs : length new.refs ≡ length old.refs
  pub ints : length new.ints ≡ length old.ints
  pub frozen : old.mutable ≡ false → new ≡ old

-- so each object is there after any further steps
abbrev pub ObjectsStay : Type 0
ObjectsStay =
    (p : ProgramText) (limit : ℕ) (ts more : List ℕ) (n : Name) (o : Object) → object_at (run p limit ts).store n ≡ Some o
    → (new : Object) × (object_at (run_from p (run p limit ts) more).store n ≡ Some new) × StaysAs o new

abbrev pub IsStored : MachineState → Name → Type 0
IsStored m n = (o : Object) × (object_at m.store n ≡ Some o)

-- what a task holds in its registers or as its result, and what a field holds, is in the store
pub record NamesAreStoredIn (m : MachineState) : Type 0 where
  pub named : (t : ℕ) (x : Task) (n : Name) → slice_get m.tasks t ≡ Some x → Contains (task_names x) n → IsStored m n
  pub in_fields : (n r : Name) (o : Object) → object_at m.store n ≡ Some o → Contains o.refs (Some r) → IsStored m r

abbrev pub NamesAreStored : Type 0
NamesAreStored = (p : ProgramText) (limit : ℕ) (ts : List ℕ) → NamesAreStoredIn (run p limit ts)

-- OUTPUTS

-- further steps only add to the outputs
abbrev pub OutputsGrow : Type 0
OutputsGrow =
    (p : ProgramText) (limit : ℕ) (ts more : List ℕ)
    → (outputs : List ℤ) × ((run_from p (run p limit ts) more).outputs ≡ (run p limit ts).outputs ++ outputs)

-- TASKS

-- a step that makes tasks is a fork, and makes the next two: the left child and then the right one
pub record MakesChildren (p : ProgramText) (m m' : MachineState) (t : ℕ) : Type 0 where
  pub task : Task
  pub line : Line
  pub left : ℕ
  pub right : ℕ
  pub next : IsNext p m t task line
  pub forks : line.instr ≡ Par left right
  pub made : length m'.tasks ≡ length m.tasks + 2
  pub left_child : slice_get m'.tasks (length m.tasks) ≡ Some (child t (task.depth + 1) left task.top)
  pub right_child : slice_get m'.tasks (length m.tasks + 1) ≡ Some (child t (task.depth + 1) right task.top)

-- a task keeps its parent
abbrev pub TasksStay : MachineState → MachineState → Type 0
TasksStay m m' =
    (u : ℕ) (x : Task) → slice_get m.tasks u ≡ Some x
    → (y : Task) × (slice_get m'.tasks u ≡ Some y) × (y.parent ≡ x.parent) × (y.depth ≡ x.depth)
