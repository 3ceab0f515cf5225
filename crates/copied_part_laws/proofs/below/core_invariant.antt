-- Re-exports from `core_invariant` for the crates above.
pub use Rattle.leaf_collections.proofs.below.core_invariant.{status}
