-- Re-exports from `leaf_heap` for the crates above.
pub use Rattle.leaf_heap.proofs.HeapLemmas.{none_there, place_found}
pub use Rattle.leaf_heap.proofs.ChunkAdded.{at_last, at_push}
pub use Rattle.leaf_heap.proofs.ChunkAdded.{apart_before}
pub use Rattle.leaf_heap.proofs.Near.{are_near}
pub use Rattle.leaf_heap.proofs.HeapLemmas as HeapLemmas
pub use Rattle.leaf_heap.proofs.heap.LeafHeap.TheSendSync as LeafHeapSendSync
