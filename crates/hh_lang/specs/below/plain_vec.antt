-- Re-exports from `plain_vec` for the crates above.
pub use Rattle.plain_vec.specs.Members.{In}
