-- Re-exports from `chunk_pool` for the crates above.
pub use Rattle.core_invariant.specs.below.chunk_pool.{PoolValue, TakesAll, slot_at, NotTaken, Full}
