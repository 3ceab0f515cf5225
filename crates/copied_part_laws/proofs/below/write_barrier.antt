-- Re-exports from `write_barrier` for the crates above.
pub use Rattle.leaf_collections.proofs.below.write_barrier.SetOfSendSync as SetOfSendSync
