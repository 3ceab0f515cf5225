-- Re-exports from `chunk_pool` for the crates above.
pub use Rattle.task_slots.proofs.below.chunk_pool.{taken_are_owned}
pub use Rattle.task_slots.proofs.below.chunk_pool.PoolSendSync as PoolSendSync
