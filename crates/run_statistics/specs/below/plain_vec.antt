-- Re-exports from `plain_vec` for the crates above.
pub use Rattle.heap_reading.specs.below.plain_vec.{option_is}
