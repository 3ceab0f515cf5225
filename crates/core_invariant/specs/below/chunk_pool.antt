-- Re-exports from `chunk_pool` for the crates above.
pub use Rattle.task_slots.specs.below.chunk_pool.{AreChunks, Full, IsBlank, NotTaken, NumbersBehind, PoolValue, Slot, Reserves, TakesAll, one_unit, owner_of, slot_at, slot_in, slot_units, units_in, units_in_use}
