-- Re-exports from `leaf_heap` for the crates above.
pub use Rattle.core_invariant.specs.below.leaf_heap.{LeafHeapValue, saturating_words, place_for, room_of}
