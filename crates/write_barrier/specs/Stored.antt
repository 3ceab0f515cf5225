-- How a write of a reference changes the sets of the heaps.
use Rattle.std.specs.Prelude.{◌≡◌, ℕ, ◌<◌, Bool, true, false, List, ◌++◌, ◌==◌, ◌&&◌, if◌then◌else◌, not, Option, Some, None, IsSome, IfSome, option_map, option_to_list, slice_get}
use Rattle.object_layout.specs.declared.word.Addr.{Addr}
use Rattle.heap_tree.specs.TaskNode.{TaskNode, node_on_path}
use Rattle.chunk_pool.specs.PoolValue.{PoolValue, slot_at, owner_of}
use Rattle.remembered_set.specs.declared.remembered.RefField.{RefField}
use Rattle.remembered_set.specs.Sources.{with_noted_source}
use Rattle.write_barrier.specs.declared.sets.SetOf.{SetOf}
use Rattle.plain_vec.specs.Options.{option_is}

-- what the set of a heap holds: the fields that were seen to point down into the heap, the overwritten references that
-- are kept for its marking, and whether it keeps them
pub record Content : Type 0 where
  pub sources : List RefField
  pub kept : List Addr
  pub keeps : Bool

abbrev pub content_of : SetOf → Content
content_of s = record { sources = s.remembered.sources; kept = s.kept.items; keeps = s.keeps }

-- what the set of a task's heap holds; None if there is no such set
abbrev pub content_at : List SetOf → ℕ → Option Content
content_at sets t = option_map content_of (slice_get sets t)

-- the set of a heap, if it keeps references, has capacity for one more
abbrev pub IsRoomy : List SetOf → ℕ → Type 0
IsRoomy sets h = IfSome (slice_get sets h) (λ s. s.keeps ≡ true → 0 < s.kept.room)

-- the heap that a reference points into, if it isn't nil: that of the owner of its chunk
abbrev pub heap_of : PoolValue → Option Addr → Option ℕ
heap_of pool None = None
heap_of pool (Some a) = owner_of pool a.chunk

-- a reference, if it isn't nil, points into a chunk in use, whose owner exists
abbrev pub PointsIntoOwned : ℕ → PoolValue → Option Addr → Type 0
PointsIntoOwned made pool None = Unit {0}
PointsIntoOwned made pool (Some a) = IsSome (slot_at pool a.chunk) × ((o : ℕ) → owner_of pool a.chunk ≡ Some o → o < made)

-- whether a reference from an object of the one heap into the other points down: the one's task is a proper ancestor of
-- the other's
abbrev pub is_down : List TaskNode → Option ℕ → Option ℕ → Bool
is_down nodes None into = false
is_down nodes (Some from) None = false
is_down nodes (Some from) (Some into) = node_on_path nodes from into && not (from == into)

-- the heap in whose set a reference that is written into an object is noted
abbrev pub noted_in : List TaskNode → PoolValue → Addr → Option Addr → Option ℕ
noted_in nodes pool object value =
    if is_down nodes (heap_of pool (Some object)) (heap_of pool value) then heap_of pool value else None

-- the set of task t after a down-pointer into a heap was noted: the source is in that heap's set, once
abbrev pub with_source : Option ℕ → RefField → ℕ → Content → Content
with_source into source t c = if option_is into t then record c { sources = with_noted_source c.sources source } else c

-- the set of task t after a reference into a heap was overwritten: it is kept if that heap keeps references
abbrev pub with_kept : Option ℕ → Option Addr → ℕ → Content → Content
with_kept heap overwritten t c = if option_is heap t && c.keeps then record c { kept = c.kept ++ option_to_list overwritten } else c

-- the set of task t after a reference was written into a field in place of another one
abbrev pub content_after : List TaskNode → PoolValue → RefField → Option Addr → Option Addr → ℕ → Content → Content
content_after nodes pool source overwritten value t c =
    with_kept (heap_of pool overwritten) overwritten t (with_source (noted_in nodes pool source.object value) source t c)
