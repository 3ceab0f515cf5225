-- Re-exports from `plain_vec` for the crates above.
pub use Rattle.refinement_laws.specs.below.plain_vec.{In, ReservedVecValue, is_empty, option_is}
