-- Re-exports from `plain_vec` for the crates above.
pub use Rattle.core_invariant.specs.below.plain_vec.{ReservedVecValue}
