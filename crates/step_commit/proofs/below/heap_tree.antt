-- Re-exports from `heap_tree` for the crates above.
pub use Rattle.core_invariant.proofs.below.heap_tree.{all, states_change}
