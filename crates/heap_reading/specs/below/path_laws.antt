-- Re-exports from `path_laws` for the crates above.
pub use Rattle.core_invariant.specs.below.path_laws.{AreOwners, ArePaths, IsWalkUp}
