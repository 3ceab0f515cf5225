-- Re-exports from `chunk_pool` for the crates above.
pub use Rattle.core_invariant.proofs.below.chunk_pool.PoolSendSync as PoolSendSync
