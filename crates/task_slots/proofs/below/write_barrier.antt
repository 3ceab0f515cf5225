-- Re-exports from `write_barrier` for the crates above.
pub use Rattle.write_barrier.proofs.sets.SetOf.TheSendSync as SetOfSendSync
