-- Re-exports from `heap_tree` for the crates above.
pub use Rattle.refinement_laws.proofs.below.heap_tree.{all, states_change}
pub use Rattle.refinement_laws.proofs.below.heap_tree.TreeSendSync as TreeSendSync
