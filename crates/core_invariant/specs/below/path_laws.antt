-- Re-exports from `path_laws` for the crates above.
pub use Rattle.refinement_laws.specs.below.path_laws.{AreOwners, ArePaths, IsWalkOfJoined, IsWalkUp}
