-- Re-exports from `chunk_pool` for the crates above.
pub use Rattle.leaf_collections.proofs.below.chunk_pool.PoolSendSync as PoolSendSync
