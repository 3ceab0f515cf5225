-- Re-exports from `path_laws` for the crates above.
pub use Rattle.path_laws.proofs.Leaves.{goes_tells, wait_task, wait_there, waiting_stops}
pub use Rattle.path_laws.proofs.Objects.{objects_stay}
pub use Rattle.path_laws.proofs.PathLaws.{owners_are_walks, paths_are_walks}
pub use Rattle.path_laws.proofs.Stored.{run_stored}
