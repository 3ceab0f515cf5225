-- Re-exports from `chunk_pool` for the crates above.
pub use Rattle.leaf_collections.specs.below.chunk_pool.{units_in_use}
pub use Rattle.heap_marking.specs.below.chunk_pool.{PoolValue, TakesAll, slot_at, NotTaken, Full}
