-- Re-exports from `leaf_heap` for the crates above.
pub use Rattle.core_invariant.specs.below.leaf_heap.{HaveDistinctNumbers, IsCurrent, IsReserved, IsTidy, LeafHeapValue, saturating_words, merged, room_of, with_places}
