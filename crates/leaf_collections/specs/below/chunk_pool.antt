-- Re-exports from `chunk_pool` for the crates above.
pub use Rattle.core_invariant.specs.below.chunk_pool.{Full, NotTaken, PoolValue, Slot, TakesAll, owner_of, slot_at, slot_units, units_in_use}
