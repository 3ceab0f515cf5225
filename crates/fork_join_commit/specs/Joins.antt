-- How a join changes slots and sets.
use Rattle.std.specs.Prelude.{◌≡◌, ◌≢◌, ◌⊎◌, ℕ, ℤ, pos, ◌+◌, ◌≤◌, Bool, false, if◌then◌else◌, Option, Some, None, List, [], IfSome, length, slice_get}
use Rattle.fork_join_commit.specs.Common.{Addr, ChunkValue, PoolValue, HaveDistinctNumbers, LeafHeapValue, merged, FramesValue, int_of, ref_of, sibling, TaskNode, RefField, RememberedValue, lifted, SetOf, Content, content_at, no_heap, EndedChild, Side, AreInUse, HasCapacityForBoth, HaveEnded, Private, ParkedTask, Work, Calls, Result, NotEntered, NoMemory, Refuses, SharedValue, rest_at}
pub use Rattle.step_commit.specs.below.task_slots.{IsSameRest}
use Rattle.step_commit.specs.below.task_slots.{TaskSlotsValue}
use Rattle.fork_join_commit.specs.Forks.{nothing_noted}

-- the result of a task that has ended
abbrev pub work_result : Work → ℤ × Option Addr
work_result (Calls s) = (pos 0, None)
work_result (Result k r) = (k, r)

-- what the last frame of a part returns
abbrev pub part_result : Private → ℤ × Option Addr
part_result p = (int_of p.frames.top 0, ref_of p.frames.top 0)

abbrev pub no_rest : ℕ → ℕ → ParkedTask
no_rest slots spare = record { work = Result (pos 0) None; heap = no_heap slots spare; view = []; allocations = 0 }

-- the parked state of a task, or what stands for none
abbrev pub IsRestOf : Option ParkedTask → ParkedTask → Type 0
IsRestOf None r = (slots : ℕ) × (spare : ℕ) × (r ≡ no_rest slots spare)
IsRestOf (Some x) r = r ≡ x

-- the parent has this heap and goes on with these frames, and the children leave no parked state
pub record RestsJoin (rests after : List (Option ParkedTask)) (p : Private) (parent other : ℕ) (frames : FramesValue) (heap : LeafHeapValue) (above : ParkedTask) : Type 0 where
  pub many : length after ≡ length rests
  pub parent_slot : rest_at after parent ≡ Some (record above { work = Calls frames; heap = heap })
  pub own_slot : rest_at after p.task ≡ None
  pub other_slot : rest_at after other ≡ None
  pub others : (u : ℕ) → u ≢ parent → u ≢ p.task → u ≢ other → rest_at after u ≡ rest_at rests u

abbrev pub sources_by : Option Content → List RefField
sources_by None = []
sources_by (Some c) = c.sources

abbrev pub sources_at : List SetOf → ℕ → List RefField
sources_at sets u = sources_by (content_at sets u)

-- the parent's set also has the sources of its children's, except those in its own chunks, and keeps no references any
-- more; the sets of both children are empty
pub record SetsJoin (sets after : List SetOf) (parent left right : ℕ) (chunks : List ChunkValue) : Type 0 where
  pub many : length after ≡ length sets
  pub parent_set : content_at after parent ≡ Some (record { sources = lifted (lifted (sources_at sets parent) (sources_at sets left) chunks) (sources_at sets right) chunks; kept = []; keeps = false })
  pub left_set : content_at after left ≡ Some nothing_noted
  pub right_set : content_at after right ≡ Some nothing_noted
  pub others : (u : ℕ) → u ≢ parent → u ≢ left → u ≢ right → content_at after u ≡ content_at sets u

-- which of the two is the left child: the part's task or its sibling; with the heaps and the results of both
abbrev pub AreSides : Private → ℕ → ParkedTask → ℕ → LeafHeapValue → LeafHeapValue → ℤ × Option Addr → ℤ × Option Addr → Type 0
AreSides p other beside left lh rh al ar =
    ((p.task ≡ left) × (other ≡ left + 1) × (lh ≡ p.heap) × (rh ≡ beside.heap) × (al ≡ part_result p) × (ar ≡ work_result beside.work))
    ⊎ ((other ≡ left) × (p.task ≡ left + 1) × (lh ≡ beside.heap) × (rh ≡ p.heap) × (al ≡ work_result beside.work) × (ar ≡ part_result p))

-- ---- SPARE CAPACITY

-- the same shared value, except for the spare capacities of heaps and sets
pub record SameButPlaces (w after : SharedValue) : Type 0 where
  pub rest : after ≡ record w { rests = after.rests; sets = after.sets }
  pub many : length after.rests ≡ length w.rests
  pub rests : (u : ℕ) → IsSameRest (rest_at w.rests u) (rest_at after.rests u)
  pub many_sets : length after.sets ≡ length w.sets
  pub sets : (u : ℕ) → content_at after.sets u ≡ content_at w.sets u

-- a refused call changes nothing, and one that ran out of memory changes only capacities
abbrev pub IsUnchanged : NotEntered → SharedValue → SharedValue → Type 0
IsUnchanged (Refuses cause) w after = after ≡ w
IsUnchanged NoMemory w after = SameButPlaces w after

abbrev pub chunk_count : Option ParkedTask → ℕ
chunk_count None = 0
chunk_count (Some r) = length r.heap.chunks

-- how many chunks a part and its sibling bring, and how many sources
abbrev pub chunks_of_both : List (Option ParkedTask) → Private → ℕ
chunks_of_both rests p = length p.heap.chunks + chunk_count (rest_at rests (sibling p.task))

abbrev pub sources_of_both : List SetOf → Private → ℕ
sources_of_both sets p = length (sources_at sets p.task) + length (sources_at sets (sibling p.task))

-- a heap has capacity for n more chunks, and a set for n more sources
abbrev pub HasHeapRoom : ℕ → Option ParkedTask → Type 0
HasHeapRoom n rest = IfSome rest (λ r. (n ≤ r.heap.slots) × (n ≤ r.heap.spare))

abbrev pub HasSetRoom : ℕ → Option SetOf → Type 0
HasSetRoom n set = IfSome set (λ s. (n ≤ s.remembered.slots) × (n ≤ s.remembered.spare))

-- the heap and the set of the parent have capacity for all that a part and its sibling bring
pub record HasPlaces (w : SharedValue) (p : Private) (parent : ℕ) : Type 0 where
  pub heap : HasHeapRoom (chunks_of_both w.rests p) (rest_at w.rests parent)
  pub set : HasSetRoom (sources_of_both w.sets p) (slice_get w.sets parent)

-- the same slots, except for the spare capacities of a task's heap and set
pub record SameButPlacesOf (slots after : TaskSlotsValue) (t : ℕ) : Type 0 where
  pub task_slots : after ≡ record slots { rests = after.rests; sets = after.sets }
  pub many : length after.rests ≡ length slots.rests
  pub others : (u : ℕ) → u ≢ t → rest_at after.rests u ≡ rest_at slots.rests u
  pub same : IsSameRest (rest_at slots.rests t) (rest_at after.rests t)
  pub many_sets : length after.sets ≡ length slots.sets
  pub same_sets : (u : ℕ) → content_at after.sets u ≡ content_at slots.sets u

-- the parent's have capacity for all that a part and its sibling brought before
pub record GetsPlaces (slots after : TaskSlotsValue) (p : Private) (parent : ℕ) : Type 0 where
  pub slot_room : HasHeapRoom (chunks_of_both slots.rests p) (rest_at after.rests parent)
  pub set_room : HasSetRoom (sources_of_both slots.sets p) (slice_get after.sets parent)

-- ---- BOTH CHILDREN

abbrev pub own_child : Private → RememberedValue → EndedChild
own_child p notes = record { side = record { task = p.task; heap = p.heap; remembered = notes }; result = part_result p }

abbrev pub other_child : ℕ → ParkedTask → RememberedValue → EndedChild
other_child t r notes = record { side = record { task = t; heap = r.heap; remembered = notes }; result = work_result r.work }

-- the left one and the right one
abbrev pub left_child_of : Bool → EndedChild → EndedChild → EndedChild
left_child_of left own other = if left then own else other

abbrev pub right_of : Bool → EndedChild → EndedChild → EndedChild
right_of left own other = if left then other else own

-- the parent's side
abbrev pub parent_side : ℕ → ParkedTask → RememberedValue → Side
parent_side t r notes = record { task = t; heap = r.heap; remembered = notes }

-- the conditions of a join
pub record CanJoin (nodes : List TaskNode) (pool : PoolValue) (parent : Side) (left right : EndedChild) : Type 0 where
  pub room : HasCapacityForBoth parent left.side right.side
  pub ended : HaveEnded nodes parent.task left.side.task right.side.task
  pub left_used : AreInUse pool left.side.heap.chunks
  pub right_used : AreInUse pool right.side.heap.chunks
  pub apart : HaveDistinctNumbers (merged parent.heap left.side.heap right.side.heap).chunks
