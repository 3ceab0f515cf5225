-- Re-exports from `write_barrier` for the crates above.
pub use Rattle.heap_reading.specs.below.write_barrier.{SetOf, content_at}
