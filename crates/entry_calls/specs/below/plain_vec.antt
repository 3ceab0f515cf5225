-- Re-exports from `plain_vec` for the crates above.
pub use Rattle.heap_marking.specs.below.plain_vec.{ReservedVecValue}
