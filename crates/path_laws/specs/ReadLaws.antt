-- Laws of reads: which are never stopped, and whom a stop names.
use Rattle.std.specs.Prelude.{◌≡◌, ◌↔◌, ℕ, true, false, Some, None, List, length, slice_get, Contains}
use Rattle.std.specs.Option.{option_flatten}
use Rattle.path_laws.specs.Common.{Getr, Line, ProgramText, Name, Object, Task, Entangled, MachineState, Goes, int_in, object_at, onward, place_in, read_effect, ref_in, with_ref, task_names, refs_at, Precedes, ended_by, is_running, joined, is_on_path, owner_of, run, setting, step, strand_of, with_task, IsNext}

-- a running task holds an object, in a register
pub record Holds (m : MachineState) (t : ℕ) (x : Task) (n : Name) (o : Object) : Type 0 where
  pub task : slice_get m.tasks t ≡ Some x
  pub running : is_running (Some x) ≡ true
  pub name : Contains (task_names x) n
  pub object : object_at m.store n ≡ Some o

-- the object of a name happens before the task
abbrev pub PrecedesTask : MachineState → ℕ → Task → Name → Type 0
PrecedesTask m t x n = (o : Object) × (object_at m.store n ≡ Some o) × Precedes m.edges o.strand (strand_of t x)

-- each reference field of the object is nil or names an object that happens before the task, so that its read is never
-- stopped
pub record ReadsFreely (m : MachineState) (t : ℕ) (x : Task) (o : Object) : Type 0 where
  pub precede : (r : Name) → Contains o.refs (Some r) → PrecedesTask m t x r
  pub goes : (at d : ℕ) → let r = option_flatten (slice_get o.refs at) in read_effect (setting m t x) x.top m.store d r ≡ Goes (onward (with_ref x.top d r)) m.store

-- a task's reads of an object that it owns are never stopped
abbrev pub OwnReadsGo : Type 0
OwnReadsGo =
    (p : ProgramText) (limit : ℕ) (ts : List ℕ) (t : ℕ) (x : Task) (n : Name) (o : Object)
    → let m = run p limit ts in Holds m t x n o → owner_of m.tasks n.task ≡ t → ReadsFreely m t x o

-- THE FROZEN LAW: a task's reads of an immutable object are never stopped
abbrev pub FrozenReadsGo : Type 0
FrozenReadsGo =
    (p : ProgramText) (limit : ℕ) (ts : List ℕ) (t : ℕ) (x : Task) (n : Name) (o : Object)
    → let m = run p limit ts in Holds m t x n o → o.mutable ≡ false → ReadsFreely m t x o

-- a read of an object was stopped: what it would have yielded doesn't happen before the reader, and the owner that is
-- named is a task that hasn't joined, owns that object, and isn't on the reader's path
pub record IsReadStop (m : MachineState) (t owner : ℕ) : Type 0 where
  pub name : Name
  pub source : Name
  pub field : Contains (refs_at m.store source) name
  pub task : Task
  pub is : slice_get m.tasks t ≡ Some task
  pub named : Contains (task_names task) source
  pub apart : PrecedesTask m t task name → ⊥
  pub owns : owner ≡ owner_of m.tasks name.task
  pub live : joined m.tasks owner ≡ false
  pub off_path : is_on_path m.tasks owner t ≡ false

-- a step that ends the machine as entangled is a stopped read of this task, and names the live owner
abbrev pub StopsNameOwners : Type 0
StopsNameOwners =
    (p : ProgramText) (limit : ℕ) (ts : List ℕ) (t reader owner : ℕ)
    → let m = run p limit ts in m.end ≡ None → (step p m t).end ≡ Some (Entangled reader owner) → (reader ≡ t) × IsReadStop m t owner

-- WHEN A READ IS STOPPED

-- the next step of the running task t reads a reference field into the register d, and the field names the object o
pub record ReadsNext (p : ProgramText) (m : MachineState) (t : ℕ) (x : Task) (d : ℕ) (n : Name) (o : Object) : Type 0 where
  pub running : is_running (Some x) ≡ true
  pub line : Line
  pub next : IsNext p m t x line
  pub register : ℕ
  pub index : ℕ
  pub instr : line.instr ≡ Getr d register index
  pub source : Name
  pub named : ref_in x.top register ≡ Some source
  pub read : Object
  pub is : object_at m.store source ≡ Some read
  pub at : ℕ
  pub place : place_in (length read.refs) (int_in x.top index) ≡ Some at
  pub field : slice_get read.refs at ≡ Some (Some n)
  pub object : object_at m.store n ≡ Some o

-- the register holds what was read
abbrev pub IsRead : ProgramText → MachineState → ℕ → Task → ℕ → Name → Type 0
IsRead p m t x d n = step p m t ≡ with_task m t (record x { top = onward (with_ref x.top d (Some n)) })

-- the machine ends as entangled with the reader and the owner, and nothing else changes
abbrev pub IsStopped : ProgramText → MachineState → ℕ → Name → Type 0
IsStopped p m t n = step p m t ≡ ended_by m (Entangled t (owner_of m.tasks n.task))

-- a read goes on if and only if the strand of what it reads happens before the reader's; otherwise it is stopped. The
-- owner that a stop names hasn't joined
pub record IsDecided (p : ProgramText) (m : MachineState) (t : ℕ) (x : Task) (d : ℕ) (n : Name) (o : Object) : Type 0 where
  pub goes : Precedes m.edges o.strand (strand_of t x) ↔ IsRead p m t x d n
  pub stops : (Precedes m.edges o.strand (strand_of t x) → ⊥) ↔ IsStopped p m t n
  pub live : joined m.tasks (owner_of m.tasks n.task) ≡ false

abbrev pub ReadsAreDecided : Type 0
ReadsAreDecided =
    (p : ProgramText) (limit : ℕ) (ts : List ℕ) (t : ℕ) (x : Task) (d : ℕ) (n : Name) (o : Object)
    → let m = run p limit ts in m.end ≡ None → ReadsNext p m t x d n o → IsDecided p m t x d n o

-- a read of t that is stopped, and names this owner
pub record StopsRead (p : ProgramText) (m : MachineState) (t owner : ℕ) : Type 0 where
  pub task : Task
  pub register : ℕ
  pub name : Name
  pub object : Object
  pub reads : ReadsNext p m t task register name object
  pub apart : Precedes m.edges object.strand (strand_of t task) → ⊥
  pub owns : owner ≡ owner_of m.tasks name.task
