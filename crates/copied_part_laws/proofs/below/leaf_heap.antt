-- Re-exports from `leaf_heap` for the crates above.
pub use Rattle.leaf_collections.proofs.below.leaf_heap.LeafHeapSendSync as LeafHeapSendSync
