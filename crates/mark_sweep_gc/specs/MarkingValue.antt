-- What a marking has found and marked.
use Rattle.std.specs.Prelude.{◌≡◌, ◌⊎◌, ℕ, ◌+◌, ◌<◌, ◌≤◌, Bool, List, [], ◌∷◌, ◌++◌, if◌then◌else◌, Contains, length, take, drop}
use Rattle.std.specs.List.{IsDistinct, list_any}
use Rattle.mark_sweep_gc.specs.Common.{Addr, ChunkValue, HasObjectAt, RefersTo}
pub use Rattle.object_layout.specs.Chunks.{same_address}
use Rattle.mark_sweep_gc.specs.Snapshot.{Fork, IsInSnapshot, object_count}

-- the objects that were found, in the order in which they were found; how many of the first of them are marked, and how
-- many of the kept references are followed; the spare capacity of the list and of its table, and the capacity of the
-- list for remaining chunks
pub record MarkingValue : Type 0 where
  pub found : List Addr
  pub marked : ℕ
  pub followed : ℕ
  pub slots : ℕ
  pub spare : ℕ
  pub places : ℕ

abbrev pub has_address : List Addr → Addr → Bool
has_address xs a = list_any (same_address a) xs

-- the addresses with one more, if it isn't there yet
abbrev pub with_address : List Addr → Addr → List Addr
with_address xs a = if has_address xs a then xs else xs ++ a ∷ []

-- the objects that are marked
abbrev pub marked_of : MarkingValue → List Addr
marked_of m = take m.marked m.found

-- all that was found is marked
abbrev pub IsDone : MarkingValue → Type 0
IsDone m = m.marked ≡ length m.found

-- the objects found are in the heap, without duplicates, and there is capacity for all others, and for the chunks
pub record HasCapacityForAll (h : List ChunkValue) (m : MarkingValue) : Type 0 where
  pub each : (a : Addr) → Contains m.found a → HasObjectAt h a
  pub once : IsDistinct same_address m.found
  pub slots : object_count h < length m.found + m.slots
  pub spare : object_count h < length m.found + m.spare
  pub places : length h ≤ m.places

-- n more were found, and these are all
pub record FindsMore (more : Addr → Type 0) (old new : MarkingValue) : Type 0 where
  pub grown : (rest : List Addr) × (new.found ≡ old.found ++ rest)
  pub each : (a : Addr) → Contains new.found a → Contains old.found a ⊎ more a
  pub all : (a : Addr) → more a → Contains new.found a
  pub marked : new.marked ≡ old.marked
  pub followed : new.followed ≡ old.followed

-- what a marking has found is in this heap, with capacity for the rest; those marked are among the found, and no more
-- of the kept references are followed than there are
pub record IsOf (h : List ChunkValue) (kept : List Addr) (m : MarkingValue) : Type 0 where
  pub room : HasCapacityForAll h m
  pub marked : m.marked ≤ length m.found
  pub followed : m.followed ≤ length kept

-- it marks the snapshot: what it has found is in the snapshot; all roots are found, and what was kept and is followed;
-- and what the marked objects referred to at the fork is found, or was kept and is still to be followed
pub record IsMarking (f : Fork) (kept : List Addr) (m : MarkingValue) : Type 0 where
  pub each : (a : Addr) → Contains m.found a → IsInSnapshot f kept a
  pub roots_found : (a : Addr) → Contains f.roots a → Contains m.found a
  pub kept_found : (a : Addr) → Contains (take m.followed kept) a → Contains m.found a
  pub led : (b a : Addr) → Contains (marked_of m) b → RefersTo f.heap b a → Contains m.found a ⊎ Contains (drop m.followed kept) a

-- the whole snapshot is marked
abbrev pub IsAllMarked : Fork → List Addr → MarkingValue → Type 0
IsAllMarked f kept m = (a : Addr) → IsInSnapshot f kept a → Contains (marked_of m) a
