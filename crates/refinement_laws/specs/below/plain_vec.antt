-- Re-exports from `plain_vec` for the crates above.
pub use Rattle.refinement.specs.below.plain_vec.{option_is, ReservedVecValue, is_empty, In}
