-- Re-exports from `object_layout` for the crates above.
pub use Rattle.heap_reading.specs.below.object_layout.{Located}
