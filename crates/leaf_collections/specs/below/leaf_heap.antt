-- Re-exports from `leaf_heap` for the crates above.
pub use Rattle.core_invariant.specs.below.leaf_heap.{HaveDistinctNumbers, AreTidy, IsCurrent, IsFresh, IsReserved, IsSettled, IsTidy, LeafHeapValue, added, saturating_words, counted32, room_at, room_of, unit_count, units, with_places, place_for}
