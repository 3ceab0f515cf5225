-- What is marked of a waiting heap.
use Rattle.std.specs.Prelude.{◌≡◌, ◌⊎◌, ◌↔◌, ◌+◌, ◌<◌, ◌≤◌, ℕ, Option, Some, None, List, length}
use Rattle.std.specs.List.{IsDistinct}
use Rattle.refinement.specs.Common.{Addr, same_address, HasObjectAt, RefersTo, Located, Name, Ledger, heap_of, IsMarking, MarkingValue, marked_of, Fork, IsInSnapshot}
use Rattle.refinement.specs.Memory.{Memory, In, object_name, objects}

-- the objects at these addresses are marked: as many as the account says, all distinct, and each in the snapshot
pub record MarksStand (v : Memory) (l : Ledger) (t : ℕ) (marked : List Addr) : Type 0 where
  pub count : (heap_of l t).marked ≡ Some (length marked)
  pub once : IsDistinct same_address marked
  pub each : (a : Addr) → In marked a → (q : Located) × In (objects v t) q × (q.at ≡ a) × In (heap_of l t).snapshot (object_name q)

-- a marking that can go on: from the heap as it was when it began it marks exactly the objects of these names
pub record CanGoOnMarking (v : Memory) (t : ℕ) (names : List Name) (m : MarkingValue) : Type 0 where
  pub fork : Fork
  pub marks : IsMarking fork (v.noted t).kept m
  -- its objects are those that are there now
  pub there : (o : Located) → In (objects v t) o → HasObjectAt fork.heap o.at
  pub were : (a : Addr) → HasObjectAt fork.heap a → (o : Located) × In (objects v t) o × (o.at ≡ a)
  -- what was overwritten since then was kept
  pub overwritten : (o : Located) (a : Addr) → In (objects v t) o → v.owner a.chunk ≡ Some t → RefersTo fork.heap o.at a → In o.refs (Some a) ⊎ In (v.noted t).kept a
  -- walks through it, also from what was kept, lead to exactly these names
  pub snapshot : (o : Located) → In (objects v t) o → IsInSnapshot fork (v.noted t).kept o.at ↔ In names (object_name o)
  -- the objects found are distinct, and there is capacity for all others, and for the chunks
  pub once : IsDistinct same_address m.found
  pub marked : m.marked ≤ length m.found
  pub followed : m.followed ≤ length (v.noted t).kept
  pub slots : length (objects v t) < length m.found + m.slots
  pub spare : length (objects v t) < length m.found + m.spare
  pub places : length (v.belongings t).chunks ≤ m.places

abbrev pub MarkedBy : Memory → Ledger → ℕ → Option MarkingValue → Type 0
MarkedBy v l t None = (heap_of l t).marked ≡ None
MarkedBy v l t (Some m) = MarksStand v l t (marked_of m) × CanGoOnMarking v t (heap_of l t).snapshot m
