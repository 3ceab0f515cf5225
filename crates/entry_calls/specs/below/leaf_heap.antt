-- Re-exports from `leaf_heap` for the crates above.
pub use Rattle.leaf_collections.specs.below.leaf_heap.{LeafHeapValue, place_for, room_of}
pub use Rattle.heap_marking.specs.below.leaf_heap.{saturating_words, with_places, IsFresh, added}
