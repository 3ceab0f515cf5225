-- Re-exports from `path_laws` for the crates above.
pub use Rattle.refinement_laws.proofs.below.path_laws.{goes_tells, objects_stay, owners_are_walks, paths_are_walks, run_stored, wait_task, wait_there, waiting_stops}
