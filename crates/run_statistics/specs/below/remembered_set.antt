-- Re-exports from `remembered_set` for the crates above.
pub use Rattle.heap_reading.specs.below.remembered_set.{RefField}
