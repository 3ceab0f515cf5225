-- The last step of an entry of steps: its kinds, and what each changes of the accounts. A step of t takes them from l
-- to l'; x is the task before it and line the line that it executes.
use Rattle.std.specs.Prelude.{◌≡◌, ◌⊎◌, ℕ, ℤ, pos, ◌+◌, true, false, Option, Some, None, [], ◌∷◌, ◌++◌, slice_get, slice_set, length}
use Rattle.std.specs.Option.{option_flatten}
use Rattle.ledger_step_laws.specs.Common.{Instr, Getr, Geti, Putr, Puti, Cntr, Cnti, Cas, Par, Out, Line, ProgramText, SettingsValue, Name, Object, Frame, Running, Task, End, Done, MachineState, Goes, effect, object_at, put_object, onward, int_in, ref_in, with_int, place_in, same_name, asked, fetched, setting, is_running, result_at, result_of, parents as parents_in, Ledger, Machine, within, is_private, is_due, is_in_need, task_step, task_steps, touched, collecting, heap_of, can_step}
use Rattle.ledger_step_laws.specs.Accounts.{LedgerIsKnown, Leaves, own, Rests, rested, ArePrivate, StepsAlone, WritesOne}
use Rattle.ledger_step_laws.specs.Kinds.{ForksTask, EndsTask, JoinsTasks, TasksCanJoin}

-- no worker holds a task that doesn't run
abbrev pub IdleRest : Ledger → Type 0
IdleRest l = (u : ℕ) → is_running (slice_get l.machine.tasks u) ≡ false → Rests l u

-- a chunk is reserved only for a task whose next step allocates
abbrev pub OnlyAskersReserve : ProgramText → Ledger → Type 0
OnlyAskersReserve p l = (u : ℕ) → asked p l.machine u ≡ None → (heap_of l u).reserved ≡ 0

-- where the task stands
pub record TaskIsAt (p : ProgramText) (l : Ledger) (t : ℕ) (x : Task) (line : Line) : Type 0 where
  pub task : slice_get l.machine.tasks t ≡ Some x
  pub runs : x.status ≡ Running
  pub next : fetched p x.top ≡ Some line

-- the accounts with the machine m, after one step
abbrev pub stepped_by : Ledger → MachineState → Ledger
stepped_by l m = record l { machine = m; steps = l.steps + 1 }

-- the instruction reads the object y and writes nothing: a field, a count of fields, or a compare and swap whose field
-- isn't what was expected, and which sets its register in the frame f to 0
abbrev pub JustReads : Task → Instr → Object → Frame → Type 0
JustReads x (Getr d o k) y f = Unit {0}
JustReads x (Geti d o k) y f = Unit {0}
JustReads x (Cntr d o) y f = Unit {0}
JustReads x (Cnti d o) y f = Unit {0}
JustReads x (Cas d o k e v) y f =
    (i : ℕ) × (place_in (length y.refs) (int_in x.top k) ≡ Some i) × (y.mutable ≡ true) × (same_name (option_flatten (slice_get y.refs i)) (ref_in x.top e) ≡ false) × (f ≡ onward (with_int x.top d (pos 0)))
JustReads x _ y f = ⊥

-- it reads an object that another task owns
pub record ReadsOther (l l' : Ledger) (t : ℕ) (x : Task) (line : Line) : Type 0 where
  pub name : Name
  pub object : Object
  pub frame : Frame
  pub touches : touched x.top line.instr ≡ Some name
  pub is : object_at l.machine.store name ≡ Some object
  pub foreign : own l name ≡ t → ⊥
  pub reads : JustReads x line.instr object frame
  pub does : effect (setting l.machine t x) x.top l.machine.store line.instr ≡ Goes frame l.machine.store
  pub goes : l' ≡ stepped_by l (record l.machine { tasks = slice_set l.machine.tasks t (record x { top = frame }) })
  pub alone : StepsAlone l l' t

-- how a write changes the object y and the frame: a reference, a number, or a reference in place of the expected one
abbrev pub ChangesByWrite : Task → Instr → Object → Object → Frame → Type 0
ChangesByWrite x (Putr o k v) y y' f =
    (i : ℕ) × (place_in (length y.refs) (int_in x.top k) ≡ Some i) × (y.mutable ≡ true) × (y' ≡ record y { refs = slice_set y.refs i (ref_in x.top v) }) × (f ≡ onward x.top)
ChangesByWrite x (Puti o k v) y y' f =
    (i : ℕ) × (place_in (length y.ints) (int_in x.top k) ≡ Some i) × (y.mutable ≡ true) × (y' ≡ record y { ints = slice_set y.ints i (int_in x.top v) }) × (f ≡ onward x.top)
ChangesByWrite x (Cas d o k e v) y y' f =
    (i : ℕ) × (place_in (length y.refs) (int_in x.top k) ≡ Some i) × (y.mutable ≡ true) × (y' ≡ record y { refs = slice_set y.refs i (ref_in x.top v) }) × (f ≡ onward (with_int x.top d (pos 1)))
    × (same_name (option_flatten (slice_get y.refs i)) (ref_in x.top e) ≡ true)
ChangesByWrite x _ y y' f = ⊥

-- it writes one
pub record WritesOther (l l' : Ledger) (t : ℕ) (x : Task) (line : Line) : Type 0 where
  pub name : Name
  pub object : Object
  pub written : Object
  pub frame : Frame
  pub touches : touched x.top line.instr ≡ Some name
  pub foreign : own l name ≡ t → ⊥
  pub wrote : ChangesByWrite x line.instr object written frame
  pub does : effect (setting l.machine t x) x.top l.machine.store line.instr ≡ Goes frame (put_object l.machine.store name written)
  pub goes : l' ≡ stepped_by l (record l.machine { tasks = slice_set l.machine.tasks t (record x { top = frame }); store = put_object l.machine.store name written })
  pub writes : WritesOne (rested l t) (rested l' t) t name object written

-- it prints a number
pub record LastStepPrints (l l' : Ledger) (t : ℕ) (x : Task) (line : Line) : Type 0 where
  pub register : ℕ
  pub by : line.instr ≡ Out register
  pub goes : l' ≡ stepped_by l (record l.machine { tasks = slice_set l.machine.tasks t (record x { top = onward x.top }); outputs = l.machine.outputs ++ int_in x.top register ∷ [] })
  pub alone : StepsAlone l l' t

-- it forks
pub record LastStepForks (l l' : Ledger) (t : ℕ) (x : Task) (line : Line) : Type 0 where
  pub left : ℕ
  pub right : ℕ
  pub by : line.instr ≡ Par left right
  pub forks : ForksTask (rested l t) l' t (length l.machine.tasks) (length l.machine.tasks + 1) left right x
  -- what is recorded of its heap is what was reachable within it
  pub names : forks.names ≡ within (rested l t) t
  pub outputs : l'.machine.outputs ≡ l.machine.outputs

-- it ends the task, and its sibling goes on
pub record EndsFirst (l l' : Ledger) (t : ℕ) (x : Task) : Type 0 where
  pub parent : ℕ
  pub is : x.parent ≡ Some parent
  pub lone : x.below ≡ []
  pub ends : EndsTask (rested l t) l' t x
  pub outputs : l'.machine.outputs ≡ l.machine.outputs

-- it ends the task after its sibling, and both join
pub record EndsLast (l l' : Ledger) (t : ℕ) (x : Task) : Type 0 where
  pub parent : ℕ
  pub left : ℕ
  pub above : Task
  pub left_result : ℤ × Option Name
  pub right_result : ℤ × Option Name
  pub lone : x.below ≡ []
  pub joins : JoinsTasks (rested l t) l' parent left (left + 1) above left_result right_result
  pub can : TasksCanJoin (rested l t) parent left (left + 1) above
  -- each task keeps its parent
  pub parents : (u : ℕ) → parents_in l'.machine.tasks u ≡ parents_in l.machine.tasks u
  pub outputs : l'.machine.outputs ≡ l.machine.outputs
  pub results : ((t ≡ left) × (left_result ≡ result_of x.top) × (result_at (slice_get l.machine.tasks (left + 1)) ≡ Some right_result))
      ⊎ ((t ≡ left + 1) × (right_result ≡ result_of x.top) × (result_at (slice_get l.machine.tasks left) ≡ Some left_result))

-- it is the root's last, and the run is done
pub record LastStepEndsRun (l l' : Ledger) (t : ℕ) (x : Task) : Type 0 where
  pub root : x.parent ≡ None
  pub lone : x.below ≡ []
  pub ended : l'.machine.end ≡ Some Done
  pub is : l'.end ≡ Some (Machine Done)
  pub heaps : l'.heaps ≡ l.heaps
  -- released by its worker, the root has ended like any other task
  pub ends : EndsTask (rested l t) (rested l' t) t x
  pub outputs : l'.machine.outputs ≡ l.machine.outputs

-- it ends the run in any other way, and changes nothing else
pub record Halts (l l' : Ledger) : Type 0 where
  pub end : End
  pub other : end ≡ Done → ⊥
  pub machine : l'.machine ≡ record l.machine { end = Some end }
  pub is : l'.end ≡ Some (Machine end)
  pub heaps : l'.heaps ≡ l.heaps

-- THE KINDS

pub data LastKind : Type 0 where
  Private : LastKind
  Reading : LastKind
  Writing : LastKind
  Printing : LastKind
  Forking : LastKind
  -- its sibling goes on
  Ending : LastKind
  -- its sibling has ended
  Joining : LastKind
  -- the run is done
  Finishing : LastKind
  -- the run ends in any other way
  Halting : LastKind

-- the step is of this kind
abbrev pub IsOfKind : ProgramText → (l l' : Ledger) → ℕ → Task → Line → LastKind → Type 0
IsOfKind p l l' t x line Private = is_private p l.machine t ≡ true
IsOfKind p l l' t x line Reading = ReadsOther l l' t x line
IsOfKind p l l' t x line Writing = WritesOther l l' t x line
IsOfKind p l l' t x line Printing = LastStepPrints l l' t x line
IsOfKind p l l' t x line Forking = LastStepForks l l' t x line
IsOfKind p l l' t x line Ending = EndsFirst l l' t x
IsOfKind p l l' t x line Joining = EndsLast l l' t x
IsOfKind p l l' t x line Finishing = LastStepEndsRun l l' t x
IsOfKind p l l' t x line Halting = Halts l l'

-- of any kind but the first, it isn't private
abbrev pub KindTellsPrivate : ProgramText → Ledger → ℕ → LastKind → Type 0
KindTellsPrivate p l t Private = Unit {0}
KindTellsPrivate p l t _ = is_private p l.machine t ≡ false

-- the run goes on after it
abbrev pub GoesOn : LastKind → Type 0
GoesOn Finishing = ⊥
GoesOn Halting = ⊥
GoesOn _ = Unit {0}

-- an entry of k steps and one more of t, from the accounts l to l': the k are private, and none of all is due or in
-- need
pub record Splits (p : ProgramText) (s : SettingsValue) (l l' : Ledger) (t j : ℕ) : Type 0 where
  pub private : ArePrivate p s l t j
  pub due : is_due s p (task_steps p l t j) t ≡ false
  pub need : is_in_need p (task_steps p l t j) t ≡ false
  pub task : Task
  pub line : Line
  pub at : TaskIsAt p (task_steps p l t j) t task line
  pub after : l' ≡ task_step p (task_steps p l t j) t
  pub kind : LastKind
  pub last : IsOfKind p (task_steps p l t j) l' t task line kind
  pub apart : KindTellsPrivate p (task_steps p l t j) t kind
  pub on : GoesOn kind → l'.machine.end ≡ None

-- an accepted entry of k private steps of t and one more, by the worker w
pub record RunsPrivateSteps (p : ProgramText) (s : SettingsValue) (l l' : Ledger) (t w k : ℕ) : Type 0 where
  pub knows : LedgerIsKnown l
  pub knows_then : LedgerIsKnown l'
  pub task : Task
  pub at : slice_get l.machine.tasks t ≡ Some task
  pub runs : is_running (Some task) ≡ true
  pub can : can_step l.machine t ≡ true
  pub collects : collecting (slice_get l.heaps t) ≡ false
  pub splits : Splits p s l l' t k
  pub out : (heap_of (task_steps p l t k) t).worker ≡ Some w
  pub idle : IdleRest (task_steps p l t k)
  -- a running task without a parent is the first, and runs alone
  pub root : (u : ℕ) (x : Task) → slice_get (task_steps p l t k).machine.tasks u ≡ Some x → x.parent ≡ None → u ≡ 0
  -- it leaves the other running tasks unchanged, unless it ends the run
  pub leaves : (u : ℕ) → (u ≡ t → ⊥) → is_running (slice_get l.machine.tasks u) ≡ true → l'.machine.end ≡ None → Leaves u (rested (task_steps p l t k) t) l'
