-- Re-exports from `hh_model` for the crates above.
pub use Rattle.leaf_collections.proofs.below.hh_model.{run_is_fork_join_state, start_is_fork_join_state, step_is_fork_join_state, steps_count}
