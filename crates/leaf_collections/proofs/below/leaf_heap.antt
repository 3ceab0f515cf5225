-- Re-exports from `leaf_heap` for the crates above.
pub use Rattle.core_invariant.proofs.below.leaf_heap.LeafHeapSendSync as LeafHeapSendSync
