-- What the next instruction of a part does with an object that another task owns, in terms of the object's cell, the
-- tree and the pool.
use Rattle.std.specs.Prelude.{◌≡◌, ℕ, ◌+◌, ◌<◌, pos, not, Bool, true, false, Option, Some, None, List, IsSome, length, slice_get, slice_index_or, unwrap_or, if◌then◌else◌}
use Rattle.std.specs.Option.{option_flatten}
use Rattle.step_commit.specs.below.hh_lang.{Instr, Getr, Geti, Putr, Puti, Cntr, Cnti, Freeze, Cas, Line, ProgramText}
use Rattle.step_commit.specs.below.hh_model.{Entangled, Trapped, Frame as ModelFrame, Name, Object, MachineState, Task, Nil as NilTrap, Range, Frozen as FrozenTrap, Goes, effect, int_in, object_at, onward, place_in, ref_in, same_name, with_int, with_ref, ended_by, fetched, setting, step}
use Rattle.step_commit.specs.below.run_ledger.{owns, touched}
use Rattle.step_commit.specs.below.object_layout.{Addr, Cell, IsObject, cell_of, object_of, put_object, ChunkValue, same_reference}
use Rattle.step_commit.specs.below.chunk_pool.{PoolValue, slot_at, owner_of}
use Rattle.step_commit.specs.below.task_frames.{CallFrame, FramesValue, frames_with_int as with_number, with_next, int_of, ref_of}
use Rattle.step_commit.specs.below.heap_tree.{TaskNode, node_on_path}
use Rattle.step_commit.specs.below.write_barrier.{content_at, PointsIntoOwned}
use Rattle.step_commit.specs.below.ledger_step_laws.{rested, JustReads}
use Rattle.step_commit.specs.below.refinement.{with_belongings, ReadsReference, LiesWithOwner}
use Rattle.step_commit.specs.below.task_machine.{Private}
use Rattle.step_commit.specs.below.task_slots.{ParkedTask}
use Rattle.step_commit.specs.below.core_invariant.{SharedValue, rest_at, value_of, WorkerPartFits, belongings_of_part}
use Rattle.step_commit.specs.Alone.{machine_after, then_accounts}
use Rattle.remote_access.specs.declared.other.OtherStep.{OtherStep}
use Rattle.remote_access.specs.declared.other.OtherStep.TheVariants.{SetsNumber, SetsReference, Stops, Traps, StoresReference, Swaps, StoresNumber}

-- ---- WHETHER IT WORKS ON ONE

abbrev pub is_other_line : MachineState → ℕ → Task → Option Line → Bool
is_other_line m t x None = false
is_other_line m t x (Some line) = not (owns m.tasks t (touched x.top line.instr))

abbrev pub is_other_by : ProgramText → MachineState → ℕ → Option Task → Bool
is_other_by p m t None = false
is_other_by p m t (Some x) = is_other_line m t x (fetched p x.top)

-- the task's next step works on an object that another task owns
abbrev pub is_other : ProgramText → MachineState → ℕ → Bool
is_other p m t = is_other_by p m t (slice_get m.tasks t)

abbrev pub IsOther : SharedValue → Private → Type 0
IsOther w p = is_other w.program (machine_after w p) p.task ≡ true

-- ---- THE OBJECT

-- the address of the object that an instruction works on: that in its object register
abbrev pub object_named : CallFrame → Instr → Option Addr
object_named f (Getr d o k) = ref_of f o
object_named f (Geti d o k) = ref_of f o
object_named f (Putr o k v) = ref_of f o
object_named f (Puti o k v) = ref_of f o
object_named f (Cntr d o) = ref_of f o
object_named f (Cnti d o) = ref_of f o
object_named f (Freeze o) = ref_of f o
object_named f (Cas d o k e v) = ref_of f o
object_named f _ = None

-- the object at a can be read: each of its references, if it isn't nil, points into a chunk in use, whose owner exists
pub record IsReadable (made : ℕ) (pool : PoolValue) (t : ℕ) (ks : List ChunkValue) (a : Addr) : Type 0 where
  pub object : IsObject (cell_of ks a).mark
  pub reader : t < made
  pub refs : (i : ℕ) (r : Option Addr) → slice_get (object_of ks a).refs i ≡ Some r → PointsIntoOwned made pool r

-- ---- WHAT IT DOES

-- the address of an object of this owner goes into a register if the owner is on the reader's path; otherwise the read
-- is stopped
abbrev pub yields : List TaskNode → ℕ → ℕ → Addr → Option ℕ → OtherStep
yields tree t d a None = SetsReference d (Some a)
yields tree t d a (Some u) = if node_on_path tree u t then SetsReference d (Some a) else Stops u

abbrev pub reads_into : List TaskNode → PoolValue → ℕ → ℕ → Option Addr → OtherStep
reads_into tree pool t d None = SetsReference d None
reads_into tree pool t d (Some a) = yields tree t d a (owner_of pool a.chunk)

abbrev pub or_range : Option ℕ → (ℕ → OtherStep) → OtherStep
or_range None go = Traps Range
or_range (Some i) go = go i

abbrev pub or_frozen : Cell → OtherStep → OtherStep
or_frozen c go = if c.mutable then go else Traps FrozenTrap

-- a compare and swap, if the field holds this
abbrev pub swaps : ℕ → Addr → Option Addr → Option Addr → ℕ → Option Addr → OtherStep
swaps d a found expected i value = if same_reference found expected then Swaps d a i value else SetsNumber d (pos 0)

-- of an instruction on the object of another task at an address, whose cell is c
abbrev pub other_step : List TaskNode → PoolValue → Private → Addr → Cell → Instr → OtherStep
other_step tree pool part a c (Getr d o k) = or_range (place_in (length c.refs) (int_of part.frames.top k)) (λ i. reads_into tree pool part.task d (unwrap_or (slice_get c.refs i) None))
other_step tree pool part a c (Geti d o k) = or_range (place_in (length c.ints) (int_of part.frames.top k)) (λ i. SetsNumber d (unwrap_or (slice_get c.ints i) (pos 0)))
other_step tree pool part a c (Cntr d o) = SetsNumber d (pos (length c.refs))
other_step tree pool part a c (Cnti d o) = SetsNumber d (pos (length c.ints))
other_step tree pool part a c (Freeze o) = Traps FrozenTrap
other_step tree pool part a c (Putr o k v) = or_range (place_in (length c.refs) (int_of part.frames.top k)) (λ i. or_frozen c (StoresReference a i (ref_of part.frames.top v)))
other_step tree pool part a c (Puti o k v) = or_range (place_in (length c.ints) (int_of part.frames.top k)) (λ i. or_frozen c (StoresNumber a i (int_of part.frames.top v)))
other_step tree pool part a c (Cas d o k e v) =
    or_range (place_in (length c.refs) (int_of part.frames.top k)) (λ i. or_frozen c (swaps d a (unwrap_or (slice_get c.refs i) None) (ref_of part.frames.top e) i (ref_of part.frames.top v)))
-- no other instruction works on an object
other_step tree pool part a c _ = Traps NilTrap

-- ---- WHAT THE MACHINE DOES: the task t is x, and executes this line

-- it reads an object, and goes on with this frame
pub record ReadsTo (m : MachineState) (t : ℕ) (x : Task) (line : Line) (frame : ModelFrame) : Type 0 where
  pub name : Name
  pub object : Object
  pub touches : touched x.top line.instr ≡ Some name
  pub is : object_at m.store name ≡ Some object
  pub reads : JustReads x line.instr object frame
  pub does : effect (setting m t x) x.top m.store line.instr ≡ Goes frame m.store

-- it writes the reference field i, whose number is in the register k, of the object in the register o
pub record WritesReference (m : MachineState) (t : ℕ) (x : Task) (line : Line) (o k i : ℕ) : Type 0 where
  pub name : Name
  pub object : Object
  pub named : ref_in x.top o ≡ Some name
  pub is : object_at m.store name ≡ Some object
  pub place : place_in (length object.refs) (int_in x.top k) ≡ Some i
  pub frame : ModelFrame
  pub store : List (List Object)
  pub does : effect (setting m t x) x.top m.store line.instr ≡ Goes frame store

-- the same for a number field
pub record WritesNumber (m : MachineState) (t : ℕ) (x : Task) (line : Line) (o k i : ℕ) : Type 0 where
  pub name : Name
  pub object : Object
  pub named : ref_in x.top o ≡ Some name
  pub is : object_at m.store name ≡ Some object
  pub place : place_in (length object.ints) (int_in x.top k) ≡ Some i
  pub frame : ModelFrame
  pub store : List (List Object)
  pub does : effect (setting m t x) x.top m.store line.instr ≡ Goes frame store

-- an address stands for a name if the map `at` says so
abbrev pub SaysOther : ProgramText → (Name → Addr → Type 0) → Private → MachineState → ℕ → Task → Line → OtherStep → Type 0
SaysOther p at part m t x line (SetsNumber d z) = ReadsTo m t x line (onward (with_int x.top d z))
SaysOther p at part m t x line (SetsReference d r) = (n : Option Name) × ReadsTo m t x line (onward (with_ref x.top d n)) × ReadsReference at r n
SaysOther p at part m t x line (Stops u) = step p m t ≡ ended_by m (Entangled t u)
SaysOther p at part m t x line (Traps kind) = step p m t ≡ ended_by m (Trapped kind t line.number)
SaysOther p at part m t x line (StoresReference a i r) =
    (o : ℕ) × (k : ℕ) × (b : ℕ) × (line.instr ≡ Putr o k b) × (ref_of part.frames.top o ≡ Some a) × WritesReference m t x line o k i × (r ≡ ref_of part.frames.top b)
SaysOther p at part m t x line (Swaps d a i r) =
    (o : ℕ) × (k : ℕ) × (e : ℕ) × (b : ℕ) × (line.instr ≡ Cas d o k e b) × (ref_of part.frames.top o ≡ Some a) × (y : WritesReference m t x line o k i) × (same_name (option_flatten (slice_get y.object.refs i)) (ref_in x.top e) ≡ true) × (r ≡ ref_of part.frames.top b)
SaysOther p at part m t x line (StoresNumber a i z) =
    (o : ℕ) × (k : ℕ) × (b : ℕ) × (line.instr ≡ Puti o k b) × (ref_of part.frames.top o ≡ Some a) × WritesNumber m t x line o k i × (z ≡ int_of part.frames.top b)

pub record TellsOtherOf (p : ProgramText) (at : Name → Addr → Type 0) (part : Private) (m : MachineState) (t : ℕ) (does : OtherStep) (number : ℕ) : Type 0 where
  pub task : Task
  pub line : Line
  pub is : slice_get m.tasks t ≡ Some task
  pub next : fetched p task.top ≡ Some line
  pub number_is : line.number ≡ number
  pub says : SaysOther p at part m t task line does

-- the addresses of names after the part's fresh steps
abbrev pub then_places : SharedValue → Private → Name → Addr → Type 0
then_places w p = LiesWithOwner (with_belongings (value_of w) p.task (belongings_of_part p)) (rested (then_accounts w p) p.task)

abbrev pub TellsOther : SharedValue → Private → OtherStep → ℕ → Type 0
TellsOther w p does number = TellsOtherOf w.program (then_places w p) p (then_accounts w p).machine p.task does number

-- ---- WRITES

-- the field i of the object at an address can be written, in the heap of its owner, and its old value may be
-- overwritten
pub record IsWritable (made : ℕ) (pool : PoolValue) (rests : List (Option ParkedTask)) (a : Addr) (i : ℕ) : Type 0 where
  pub owner : ℕ
  pub rest : ParkedTask
  pub owns : owner_of pool a.chunk ≡ Some owner
  pub used : IsSome (slot_at pool a.chunk)
  pub inside : owner < made
  pub there : rest_at rests owner ≡ Some rest
  pub object : IsObject (cell_of rest.heap.chunks a).mark
  pub field : i < length (object_of rest.heap.chunks a).refs
  pub overwritten : PointsIntoOwned made pool (slice_index_or (object_of rest.heap.chunks a).refs i None)

-- the parked state of a task, after a cell of its heap is replaced
abbrev pub put_rest : ParkedTask → Addr → Cell → ParkedTask
put_rest r a d = record r { heap = record r.heap { chunks = put_object r.heap.chunks a d } }

-- the write of a reference, which may be one of a compare and swap that finds what it expects
abbrev pub store_of : Option ℕ → Addr → ℕ → Option Addr → OtherStep
store_of None a i r = StoresReference a i r
store_of (Some d) a i r = Swaps d a i r

-- the frames afterwards
abbrev pub store_frames : Option ℕ → FramesValue → FramesValue
store_frames None s = with_next s (s.top.next + 1)
store_frames (Some d) s = with_next (with_number s d (pos 1)) (s.top.next + 1)

-- the value is the same, except for the spare capacity of the sets
pub record SameButRoom (w after : SharedValue) : Type 0 where
  pub same : after ≡ record w { sets = after.sets }
  pub sets : (t : ℕ) → content_at after.sets t ≡ content_at w.sets t
  pub fit : (k : ℕ) (p : Private) → WorkerPartFits w k p → WorkerPartFits after k p
