-- Re-exports from `plain_vec` for the crates above.
pub use Rattle.plain_vec.specs.Members.{In, is_empty}
pub use Rattle.plain_vec.specs.Options.{option_is}
pub use Rattle.plain_vec.specs.ReservedVecValue.{ReservedVecValue}
