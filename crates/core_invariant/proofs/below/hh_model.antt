-- Re-exports from `hh_model` for the crates above.
pub use Rattle.refinement_laws.proofs.below.hh_model.{at_in, below, grown_at, grown_left, grown_other, grown_past, grown_right, grown_view_front, in_registers, last_there, limit_stays, named_from_in, names_run, numbered, owner_le, parl, parr, path_le, place_within, run_is_fork_join_state, run_on, running_tells, runs_have_one_root, runs_is, runs_tell, seen, sib, sizes_are_bounded, start_is_fork_join_state, step_cases, step_is_fork_join_state, step_taken, steps_count, three_left, three_other, three_right, three_top, waits_is}
