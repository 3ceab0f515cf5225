-- Re-exports from `hh_model` for the crates above.
pub use Rattle.hh_model.proofs.ForkJoinStates.{IsForkJoinState, run_is_fork_join_state, start_is_fork_join_state}
