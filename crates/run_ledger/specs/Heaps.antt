-- The accounts of heaps: chunks by count, held names and their words, what a leaf collection and a sweep keep, and what
-- is reachable within a heap.
use Rattle.std.specs.Prelude.{ℕ, ◌+◌, ◌-◌, ◌*◌, ◌==◌, ◌&&◌, ◌||◌, not, Bool, true, false, Option, Some, None, List, [], ◌∷◌, ◌++◌, slice_get, slice_set, length, if◌then◌else◌, nat_lt, nat_le, filter, map, sum_by, max, unwrap_or}
use Rattle.std.specs.List.{flat_map}
use Rattle.run_ledger.specs.Common.{is_empty, Name, Object, Frame, Task, MachineState, object_at, registers, refs_at, owner_of, is_on_path}
pub use Rattle.chunk_sizes.specs.Sizes.{chunk_words, units}
use Rattle.run_ledger.specs.declared.data.Heap.{Heap}
use Rattle.run_ledger.specs.declared.data.Ledger.{Ledger}
use Rattle.run_ledger.specs.Reachable.{holds_name, reached}

-- SIZES

-- an object of n words shares a chunk with others
abbrev pub is_small_size : ℕ → Bool
is_small_size words = nat_le words chunk_words

abbrev pub object_words_of : Option Object → ℕ
object_words_of None = 0
object_words_of (Some o) = 2 + length o.refs + length o.ints

-- the words of a name's object
abbrev pub words_at : MachineState → Name → ℕ
words_at m n = object_words_of (object_at m.store n)

abbrev pub words_sum : MachineState → List Name → ℕ
words_sum m ns = sum_by (words_at m) ns

abbrev pub units_sum : MachineState → List Name → ℕ
units_sum m ns = sum_by (λ n. units (words_at m n)) ns

-- WHAT A HEAP HOLDS

-- the held names of small objects, and all held names
abbrev pub small_in : Heap → List Name
small_in h = flat_map (λ ns. ns) h.chunks

abbrev pub held_in : Heap → List Name
held_in h = small_in h ++ h.large

abbrev pub words_in : MachineState → Heap → ℕ
words_in m h = words_sum m (held_in h)

-- the chunks that the current leaf collection took
abbrev pub begun_in : Heap → ℕ
begun_in h = unwrap_or h.begun 0

-- the chunks that a heap uses, in units
abbrev pub units_in : MachineState → Heap → ℕ
units_in m h = length h.chunks + units_sum m h.large + h.reserved + begun_in h

-- a heap that holds nothing
abbrev pub fresh : Heap
fresh = record {
  chunks = [];
  large = [];
  reserved = 0;
  room = 0;
  since = 0;
  worker = None;
  begun = None;
  survivors = [];
  snapshot = [];
  marked = None;
  swept = false;
}

-- ALL HEAPS

abbrev pub heap_at : Ledger → ℕ → Option Heap
heap_at l t = slice_get l.heaps t

abbrev pub or_fresh : Option Heap → Heap
or_fresh None = fresh
or_fresh (Some h) = h

-- the heap of a task
abbrev pub heap_of : Ledger → ℕ → Heap
heap_of l t = or_fresh (heap_at l t)

abbrev pub with_heap_at : Ledger → ℕ → (Heap → Heap) → Option Heap → Ledger
with_heap_at l t f None = l
with_heap_at l t f (Some h) = record l { heaps = slice_set l.heaps t (f h) }

-- the account of the task's heap changed by a function
abbrev pub with_heap : Ledger → ℕ → (Heap → Heap) → Ledger
with_heap l t f = with_heap_at l t f (heap_at l t)

-- the held names: those allocated and not dropped
abbrev pub held : Ledger → List Name
held l = flat_map held_in l.heaps

-- the chunks in use, in units
abbrev pub in_use : Ledger → ℕ
in_use l = sum_by (units_in l.machine) l.heaps

-- REACHABILITY WITHIN A HEAP

-- a proper ancestor
abbrev pub is_proper_ancestor : List Task → ℕ → ℕ → Bool
is_proper_ancestor tasks a t = is_on_path tasks a t && not (a == t)

abbrev pub frames_of : Option Task → List Frame
frames_of None = []
frames_of (Some x) = x.top ∷ x.below

-- what the held objects of a task's proper ancestors refer to
abbrev pub down_roots : Ledger → ℕ → List Name
down_roots l t = flat_map (refs_at l.machine.store) (filter (λ n. is_proper_ancestor l.machine.tasks (owner_of l.machine.tasks n.task) t) (held l))

-- the roots of a task's heap: what its frames' registers hold, and what its ancestors' objects refer to
abbrev pub roots_of : Ledger → ℕ → List Name
roots_of l t = registers (frames_of (slice_get l.machine.tasks t)) ++ down_roots l t

-- of the names held in a task's heap, those reachable from its roots through that heap
abbrev pub within : Ledger → ℕ → List Name
within l t = reached l.machine.store (held_in (heap_of l t)) (roots_of l t)

-- ALLOCATIONS

-- a name at the end of the last list, or in a list of its own if there is none
abbrev pub put_last : List (List Name) → Name → List (List Name)
put_last [] n = (n ∷ []) ∷ []
put_last (ns ∷ []) n = (ns ++ n ∷ []) ∷ []
put_last (ns ∷ ms ∷ rest) n = ns ∷ put_last (ms ∷ rest) n

-- an allocation of n words: a small object takes room in the last chunk, a large one the reserved chunk
abbrev pub with_allocation : Heap → Name → ℕ → Heap
with_allocation h n w =
    if is_small_size w
    then record h { chunks = put_last h.chunks n; room = h.room - w; since = h.since + w }
    else record h { large = h.large ++ n ∷ []; reserved = 0; since = h.since + w }

-- an object of n words doesn't fit yet
abbrev pub lacks_room : Heap → ℕ → Bool
lacks_room h w = if is_small_size w then nat_lt h.room w else not (h.reserved == units w)

-- FORKS AND JOINS

-- the account of a task that forks: nobody holds it, and what is reachable within its heap is recorded
abbrev pub forked_heap : List Name → Heap → Heap
forked_heap names h = record h { worker = None; snapshot = names; marked = None; swept = false }

-- the account of a task whose children join: the left child's names come first, then the right one's, then its own. A
-- marking is abandoned
abbrev pub merged : Heap → Heap → Heap → Heap
merged parent left right = record parent {
  chunks = left.chunks ++ right.chunks ++ parent.chunks;
  large = left.large ++ right.large ++ parent.large;
  since = parent.since + left.since + right.since;
  marked = None;
}

-- the account of a child that has joined
abbrev pub emptied : Heap → Heap
emptied h = record h { chunks = []; large = []; since = 0; room = 0; worker = None }

-- the account of a task that nobody holds any more
abbrev pub let_go : Heap → Heap
let_go h = record h { worker = None }

-- LEAF COLLECTIONS

-- how many chunks a leaf collection takes: one less than twice the number that would hold the words of the small names
abbrev pub take_of : MachineState → Heap → ℕ
take_of m h = 2 * max 1 (units (words_sum m (small_in h))) - 1

-- born no later: by task, then by count
abbrev pub name_le : Name → Name → Bool
name_le a b = nat_lt a.task b.task || ((a.task == b.task) && nat_le a.count b.count)

abbrev pub insert_name : Name → List Name → List Name
insert_name n [] = n ∷ []
insert_name n (m ∷ ms) = if name_le n m then n ∷ m ∷ ms else m ∷ insert_name n ms

-- in order of birth
abbrev pub by_birth : List Name → List Name
by_birth [] = []
by_birth (n ∷ ns) = insert_name n (by_birth ns)

-- a name is laid into the last list if that leaves at most a chunk's words in it, otherwise into a new one
abbrev pub lay : MachineState → List (List Name) → Name → List (List Name)
lay m [] n = (n ∷ []) ∷ []
lay m (ns ∷ []) n = if nat_le (words_sum m ns + words_at m n) chunk_words then (ns ++ n ∷ []) ∷ [] else ns ∷ (n ∷ []) ∷ []
lay m (ns ∷ ms ∷ rest) n = ns ∷ lay m (ms ∷ rest) n

-- names laid into lists one after the other
abbrev pub laid_onto : MachineState → List (List Name) → List Name → List (List Name)
laid_onto m lists [] = lists
laid_onto m lists (n ∷ ns) = laid_onto m (lay m lists n) ns

-- the survivors among the names of small objects, and among those of large ones
abbrev pub small_survivors : Heap → List Name
small_survivors h = by_birth (filter (holds_name h.survivors) (small_in h))

abbrev pub large_survivors : Heap → List Name
large_survivors h = filter (holds_name h.survivors) h.large

-- the words left in the last chunk; none without a chunk
abbrev pub room_behind : MachineState → List (List Name) → ℕ
room_behind m [] = 0
room_behind m (ns ∷ []) = chunk_words - words_sum m ns
room_behind m (ns ∷ ms ∷ rest) = room_behind m (ms ∷ rest)

-- the heap after its leaf collection: the small survivors in order of birth, in new lists
abbrev pub collected : MachineState → Heap → Heap
collected m h =
    let lists = laid_onto m [] (small_survivors h) in
    record h { chunks = lists; large = large_survivors h; room = room_behind m lists; since = 0; begun = None }

-- the numbers of the entry that ends a leaf collection: the new chunks, the chunks released and the words held.
-- Released are the old chunks, the new ones that weren't used, and those of the large objects that were dropped
abbrev pub end_numbers : MachineState → Heap → ℕ × ℕ × ℕ
end_numbers m h =
    let after = collected m h in (
      length after.chunks,
      length h.chunks + (begun_in h - length after.chunks) + (units_sum m h.large - units_sum m after.large),
      words_in m after,
    )

-- MARKING AND SWEEPS

-- how many objects are marked, and how many of the snapshot are still to be marked
abbrev pub marked_in : Heap → ℕ
marked_in h = unwrap_or h.marked 0

abbrev pub left_in : Heap → ℕ
left_in h = length h.snapshot - marked_in h

-- those of these names that are in the snapshot
abbrev pub in_snapshot : Heap → List Name → List Name
in_snapshot h ns = filter (holds_name h.snapshot) ns

abbrev pub without_empty : List (List Name) → List (List Name)
without_empty lists = filter (λ ns. not (is_empty ns)) lists

abbrev pub is_last_empty : List (List Name) → Bool
is_last_empty [] = false
is_last_empty (ns ∷ []) = is_empty ns
is_last_empty (ns ∷ ms ∷ rest) = is_last_empty (ms ∷ rest)

-- the heap after its sweep: names outside the snapshot are dropped, and lists without a name are released
abbrev pub swept_heap : Heap → Heap
swept_heap h =
    let lists = map (in_snapshot h) h.chunks in
    record h {
      chunks = without_empty lists;
      large = in_snapshot h h.large;
      room = if is_last_empty lists then 0 else h.room;
      marked = None;
      swept = true;
    }

-- the number of the entry that sweeps: the chunks released
abbrev pub sweep_number : MachineState → Heap → ℕ
sweep_number m h =
    let after = swept_heap h in
    (length h.chunks - length after.chunks) + (units_sum m h.large - units_sum m after.large)
