-- The slots of tasks, as contracts see them.
use Rattle.std.specs.Prelude.{◌≡◌, ℕ, Bool, true, false, Option, Some, None, List, [], map, slice_get}
use Rattle.std.specs.Option.{option_flatten}
use Rattle.object_layout.specs.declared.word.Addr.{Addr}
use Rattle.object_layout.specs.Chunks.{object_of}
use Rattle.leaf_heap.specs.LeafHeapValue.{with_places}
use Rattle.remembered_set.specs.declared.remembered.RefField.{RefField}
use Rattle.write_barrier.specs.declared.sets.SetOf.{SetOf}
use Rattle.write_barrier.specs.Forms.{bare_noted}
use Rattle.write_barrier.specs.Stored.{Content}
use Rattle.mark_sweep_gc.specs.MarkingValue.{MarkingValue}
use Rattle.task_slots.specs.declared.slots.TaskSlot.{TaskSlot}
use Rattle.task_slots.specs.declared.task_at_rest.ParkedTask.{ParkedTask}

-- by the numbers of the tasks
pub record TaskSlotsValue : Type 0 where
  -- the parked state of each task that no worker holds
  pub rests : List (Option ParkedTask)
  -- what is noted for the collections of each task's heap
  pub sets : List SetOf
  -- what is marked of each heap that is being marked
  pub marks : List (Option MarkingValue)
  -- which tasks have a block for these
  pub blocks : List Bool
  -- the spare capacity for more tasks
  pub room : ℕ

-- a slot with nothing in it
abbrev pub empty_slot : TaskSlot
empty_slot = record { rest = None; set = bare_noted false; marking = None }

-- a task without a block has none of that
abbrev pub rest_in : Option TaskSlot → Option ParkedTask
rest_in None = None
rest_in (Some h) = h.rest

abbrev pub set_in : Option TaskSlot → SetOf
set_in None = bare_noted false
set_in (Some h) = h.set

abbrev pub marking_in : Option TaskSlot → Option MarkingValue
marking_in None = None
marking_in (Some h) = h.marking

abbrev pub has_block : Option TaskSlot → Bool
has_block None = false
has_block (Some h) = true

abbrev pub task_slots_value : List (Option TaskSlot) → ℕ → TaskSlotsValue
task_slots_value hs room = record { rests = map rest_in hs; sets = map set_in hs; marks = map marking_in hs; blocks = map has_block hs; room = room }

-- ---- OF ONE TASK

abbrev pub rest_at : List (Option ParkedTask) → ℕ → Option ParkedTask
rest_at rests t = option_flatten (slice_get rests t)

abbrev pub marks_at : List (Option MarkingValue) → ℕ → Option MarkingValue
marks_at marks t = option_flatten (slice_get marks t)

abbrev pub sources_of : Option SetOf → List RefField
sources_of None = []
sources_of (Some s) = s.remembered.sources

abbrev pub kept_of : Option SetOf → List Addr
kept_of None = []
kept_of (Some s) = s.kept.items

abbrev pub keeps_of : Option SetOf → Bool
keeps_of None = false
keeps_of (Some s) = s.keeps

-- the references of the object at an address of a heap
abbrev pub refs_of_rest : Option ParkedTask → Addr → List (Option Addr)
refs_of_rest None a = []
refs_of_rest (Some r) a = (object_of r.heap.chunks a).refs

-- a set that keeps overwritten references from now on, or none any more; there are none now
abbrev pub keeping : Bool → Content → Content
keeping keeps c = record c { kept = []; keeps = keeps }

-- the same, except for the spare capacity of its heap
abbrev pub IsSameRest : Option ParkedTask → Option ParkedTask → Type 0
IsSameRest None after = after ≡ None
IsSameRest (Some r) after = (slots : ℕ) × (spare : ℕ) × (after ≡ Some (record r { heap = with_places r.heap slots spare }))
