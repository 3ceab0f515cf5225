-- Re-exports from `path_laws` for the crates above.
pub use Rattle.core_invariant.proofs.below.path_laws.{run_stored, wait_there, waiting_stops}
