-- Re-exports from `plain_vec` for the crates above.
pub use Rattle.hh_lang.specs.below.plain_vec.{In}
