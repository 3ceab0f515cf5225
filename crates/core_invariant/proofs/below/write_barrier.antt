-- Re-exports from `write_barrier` for the crates above.
pub use Rattle.task_slots.proofs.below.write_barrier.SetOfSendSync as SetOfSendSync
