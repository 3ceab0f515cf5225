-- Re-exports from `leaf_heap` for the crates above.
pub use Rattle.leaf_collections.specs.below.leaf_heap.{LeafHeapValue}
