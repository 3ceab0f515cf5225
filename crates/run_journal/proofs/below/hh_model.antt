-- Re-exports from `hh_model` for the crates above.
pub use Rattle.hh_model.proofs.Carried.{at_in, next_name}
pub use Rattle.hh_model.proofs.Changes.{Change, Freezes, SetsInt, SetsRef, WritesField}
pub use Rattle.hh_model.proofs.Climbs.{owner_here}
pub use Rattle.hh_model.proofs.Counts.{counted_step, reached_sound, run_on, run_push, runs_are_counted}
pub use Rattle.hh_model.proofs.EndLaws.{ended_stays}
pub use Rattle.hh_model.proofs.ForkJoinStates.{IsForkJoinState, empty_rows, no_objects, run_is_fork_join_state, seen, start_is_fork_join_state, step_is_fork_join_state}
pub use Rattle.hh_model.proofs.Joins.{more_joins}
pub use Rattle.hh_model.proofs.Paths.{AreLow, owner_joins, owner_le, owner_same, path_above, path_child, path_itself, path_le, path_through}
pub use Rattle.hh_model.proofs.Runs.{below, drest, grown_length, grown_view, grown_view_front, joins_in, joins_of, parl, parr, running_tells, sib, three_left, three_length, three_other, three_right, three_top, three_view, waiting}
pub use Rattle.hh_model.proofs.Steps.{Alters, in_registers, names_run, runs_is, step_cases}
pub use Rattle.hh_model.proofs.Stores.{put_cases}
pub use Rattle.hh_model.proofs.Taken.{can_made, can_runs, step_idle}
pub use Rattle.hh_model.proofs.Tree.{Known, Tree, live_up, more_other, not_above, owner_not_joined}
pub use Rattle.hh_model.proofs.Walks.{same_from_test}
