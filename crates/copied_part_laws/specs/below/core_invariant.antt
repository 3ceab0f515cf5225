-- Re-exports from `core_invariant` for the crates above.
pub use Rattle.leaf_collections.specs.below.core_invariant.{WorkerPartFits, CopyingHasBegun, IsSharedValue, SharedValue, accounts, value_of, without_journal}
