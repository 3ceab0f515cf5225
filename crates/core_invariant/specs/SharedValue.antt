-- The shared value as contracts see it, and its contents in the terms of the relation to the accounts.
use Rattle.std.specs.Prelude.{ℕ, ℤ, pos, Bool, false, Option, Some, None, List, [], ◌∷◌, replicate, slice_get}
use Rattle.std.specs.Option.{option_flatten}
use Rattle.core_invariant.specs.Common.{ReservedVecValue, ProgramText, EntryValue, SettingsValue, Ledger, RunEnd, ledger_of, Addr, PoolValue, owner_of, units_in_use, LeafHeapValue, room_of, Level, CallFrame, FramesValue, TaskNode, SetOf, MarkingValue, Belongings, Noted, Memory, TreeCounts, ParkedTask, Work, Calls, Result}
pub use Rattle.refinement_laws.specs.below.refinement.{no_belongings}
pub use Rattle.task_slots.specs.TaskSlotsValue.{marks_at, rest_at}
use Rattle.core_invariant.specs.Objects.{chunks_of, levels_of}

pub record SharedValue : Type 0 where
  pub program : ProgramText
  pub settings : SettingsValue
  -- the tasks made, by number
  pub tree : List TaskNode
  pub pool : PoolValue
  -- the parked state of each task that no worker holds
  pub rests : List (Option ParkedTask)
  pub sets : List SetOf
  -- the marking of each heap that is being marked; tasks after the last have none
  pub marks : List (Option MarkingValue)
  -- the task that each worker holds
  pub tasks_out : List (Option ℕ)
  pub outputs : List ℤ
  pub journal : ReservedVecValue EntryValue
  pub steps : ℕ
  pub end : Option RunEnd
  -- some worker ran out of memory, and no more entries are to be made
  pub halted : Bool

-- all except its journal
abbrev pub without_journal : SharedValue → SharedValue
without_journal w = record w { journal = record { items = []; room = 0 } }

-- the accounts of its journal
abbrev pub accounts : SharedValue → Ledger
accounts w = ledger_of w.program w.settings w.journal.items

-- the root before its first step
abbrev pub first_rest : ProgramText → ℕ → ℕ → ParkedTask
first_rest p slots spare = record {
  work = Calls (record { below = []; top = record { function = p.main; next = 0; ints = replicate 16 (pos 0); refs = replicate 16 None } });
  heap = record { chunks = []; current = None; reserved = None; since = 0; slots = slots; spare = spare };
  view = [];
  allocations = 0;
}

-- ---- BELONGINGS

-- the top frame, and then those that wait, the oldest first
abbrev pub frames_down : FramesValue → List CallFrame
frames_down s = s.top ∷ s.below

-- a heap, a view and a count of allocations, and the frames of a task at work
abbrev pub belongings_with : LeafHeapValue → List Level → ℕ → List CallFrame → ℤ × Option Addr → Belongings
belongings_with h view count frames result = record {
  chunks = chunks_of h.chunks;
  room = room_of h;
  since = h.since;
  count = count;
  frames = frames;
  result = result;
  begun = None;
  view = levels_of view;
}

abbrev pub belongings_by : LeafHeapValue → List Level → ℕ → Work → Belongings
belongings_by h view count (Calls s) = belongings_with h view count (frames_down s) (pos 0, None)
belongings_by h view count (Result k r) = belongings_with h view count [] (k, r)

abbrev pub belongings_of : ParkedTask → Belongings
belongings_of r = belongings_by r.heap r.view r.allocations r.work

abbrev pub belongings_in : Option ParkedTask → Belongings
belongings_in None = no_belongings
belongings_in (Some r) = belongings_of r

-- ---- WHAT IS NOTED

abbrev pub noted_in : Option SetOf → Noted
noted_in None = record { sources = []; kept = []; keeps = false; marked = None }
noted_in (Some s) = record { sources = s.remembered.sources; kept = s.kept.items; keeps = s.keeps; marked = None }

-- ---- THE WHOLE

abbrev pub value_by : List (Option ParkedTask) → List SetOf → PoolValue → Memory
value_by rests sets pool = record {
  belongings = λ t. belongings_in (rest_at rests t);
  noted = λ t. noted_in (slice_get sets t);
  owner = owner_of pool;
}

abbrev pub with_marks : List (Option MarkingValue) → Memory → Memory
with_marks marks v = record v { noted = λ t. record (v.noted t) { marked = marks_at marks t } }

abbrev pub value_of : SharedValue → Memory
value_of w = with_marks w.marks (value_by w.rests w.sets w.pool)

abbrev pub tree_counts_of : SharedValue → TreeCounts
tree_counts_of w = record {
  node = slice_get w.tree;
  task_out = λ k. option_flatten (slice_get w.tasks_out k);
  used = units_in_use w.pool;
  steps = w.steps;
  outputs = w.outputs;
  end = w.end;
}
