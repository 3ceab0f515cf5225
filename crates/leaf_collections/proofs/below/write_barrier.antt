-- Re-exports from `write_barrier` for the crates above.
pub use Rattle.core_invariant.proofs.below.write_barrier.SetOfSendSync as SetOfSendSync
