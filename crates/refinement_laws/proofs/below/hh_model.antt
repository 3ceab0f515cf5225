-- Re-exports from `hh_model` for the crates above.
pub use Rattle.refinement.proofs.below.hh_model.{runs_idle, runs_is, run_on, start_is_fork_join_state, path_along, path_le, runs_live, limit_from, at_in, below, grown_at, grown_left, grown_other, grown_past, grown_right, grown_view_front, in_registers, last_there, limit_stays, named_from_in, names_run, numbered, owner_le, parl, parr, place_within, run_is_fork_join_state, running_tells, runs_have_one_root, runs_tell, seen, sib, sizes_are_bounded, step_cases, step_is_fork_join_state, step_taken, steps_count, three_left, three_other, three_right, three_top, waits_is}
