-- Re-exports from `path_laws` for the crates above.
pub use Rattle.path_laws.specs.Paths.{AreOwners, ArePaths, IsWalkOfJoined, IsWalkUp}
