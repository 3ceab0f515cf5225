-- Re-exports from `chunk_pool` for the crates above.
pub use Rattle.chunk_pool.proofs.OwnerLaws.{taken_are_owned}
pub use Rattle.chunk_pool.proofs.pool.Pool.TheSendSync as PoolSendSync
