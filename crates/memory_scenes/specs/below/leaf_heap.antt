-- Re-exports from `leaf_heap` for the crates above.
pub use Rattle.leaf_heap.specs.LeafHeapValue.{IsFresh, LeafHeapValue}
