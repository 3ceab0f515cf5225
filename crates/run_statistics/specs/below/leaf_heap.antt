-- Re-exports from `leaf_heap` for the crates above.
pub use Rattle.heap_reading.specs.below.leaf_heap.{LeafHeapValue, place_for, room_of}
