-- Re-exports from `heap_tree` for the crates above.
pub use Rattle.leaf_collections.proofs.below.heap_tree.TreeSendSync as TreeSendSync
