-- Re-exports from `hh_model` for the crates above.
pub use Rattle.core_invariant.proofs.below.hh_model.{limit_stays, owner_le, run_is_fork_join_state, runs_have_one_root, sizes_are_bounded, start_is_fork_join_state, step_is_fork_join_state, steps_count}
