-- Re-exports from `hh_model` for the crates above.
pub use Rattle.hh_model.proofs.Carried.{at_in, named_from_in}
pub use Rattle.hh_model.proofs.Changes.{place_within}
pub use Rattle.hh_model.proofs.Closed.{waits_is}
pub use Rattle.hh_model.proofs.Counts.{run_on, steps_count}
pub use Rattle.hh_model.proofs.ForkJoinStates.{run_is_fork_join_state, seen, start_is_fork_join_state, step_is_fork_join_state}
pub use Rattle.hh_model.proofs.Lists.{last_there}
pub use Rattle.hh_model.proofs.Numbers.{numbered}
pub use Rattle.hh_model.proofs.Paths.{owner_le, path_along, path_le}
pub use Rattle.hh_model.proofs.Root.{runs_have_one_root, runs_tell}
pub use Rattle.hh_model.proofs.Runs.{below, grown_at, grown_left, grown_other, grown_past, grown_right, grown_view_front, parl, parr, running_tells, runs_idle, runs_live, sib, three_left, three_other, three_right, three_top}
pub use Rattle.hh_model.proofs.Sizes.{limit_from, limit_stays, sizes_are_bounded}
pub use Rattle.hh_model.proofs.Steps.{in_registers, names_run, runs_is, step_cases}
pub use Rattle.hh_model.proofs.Taken.{step_taken}
