-- Re-exports from `chunk_pool` for the crates above.
pub use Rattle.chunk_pool.specs.PoolValue.{AreChunks, IsBlank, NumbersBehind, PoolValue, Reserves, TakesAll, one_unit, owner_of, slot_at, slot_in, slot_units, units_in, units_in_use}
pub use Rattle.chunk_pool.specs.declared.pool.NotTaken.TheVariants.{Full}
pub use Rattle.chunk_pool.specs.declared.pool.NotTaken.{NotTaken}
pub use Rattle.chunk_pool.specs.declared.pool.Slot.{Slot}
