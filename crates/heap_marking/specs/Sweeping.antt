-- What a sweep requires of a heap and what it leaves of it.
use Rattle.std.specs.Prelude.{◌≡◌, ℕ, All, IsSome, Option, Some, List, slice_set}
use Rattle.heap_marking.specs.Common.{PoolValue, slot_at, LeafHeapValue, with_places, HasCapacityForAll, IsDone, MarkingValue, marked_of, AreGiven, gone_of, swept, ParkedTask}

-- all that was found is marked, and the heap's chunks are in use
pub record CanSweep (h : LeafHeapValue) (m : MarkingValue) (pool : PoolValue) : Type 0 where
  pub done : IsDone m
  pub room : HasCapacityForAll h.chunks m
  pub in_use : All (λ k. IsSome (slot_at pool k.number)) h.chunks

-- the slot of t has exactly what is marked in its heap, and the other chunks are released
pub record SweepsSlot (old new : List (Option ParkedTask)) (pool pool' : PoolValue) (t : ℕ) (r : ParkedTask) (m : MarkingValue) : Type 0 where
  pub slots : ℕ
  pub spare : ℕ
  pub rests : new ≡ slice_set old t (Some (record r { heap = with_places (swept r.heap (marked_of m)) slots spare }))
  pub given : AreGiven pool pool' (gone_of r.heap (marked_of m))
