-- Re-exports from `chunk_pool` for the crates above.
pub use Rattle.core_invariant.specs.below.chunk_pool.{AreChunks, PoolValue, Slot, owner_of, slot_at, slot_in, slot_units, units_in, units_in_use}
