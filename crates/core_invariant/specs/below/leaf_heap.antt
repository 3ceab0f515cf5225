-- Re-exports from `leaf_heap` for the crates above.
pub use Rattle.leaf_heap.specs.LeafHeapValue.{HaveDistinctNumbers, AreTidy, CellsFitInChunks, IsCurrent, IsFresh, IsReserved, IsSettled, IsTidy, LeafHeapValue, added, saturating_words, merged, place_for, with_object_placed, room_at, room_of, units, with_places}
pub use Rattle.leaf_heap.specs.Units.{counted32, unit_count}
