-- Re-exports from `hh_model` for the crates above.
pub use Rattle.hh_model.proofs.Carried.{next_name, named_from_in}
pub use Rattle.hh_model.proofs.Climbs.{owner_here}
pub use Rattle.hh_model.proofs.Closed.{asked_at, Closed, closed_step, grown_cases}
pub use Rattle.hh_model.proofs.Counts.{step_limit, run_on, Counted, counted_step, start_counted}
pub use Rattle.hh_model.proofs.ForkJoinStates.{IsForkJoinState, empty_rows, start_is_fork_join_state, IsForkJoinStateIn, step_is_fork_join_state}
pub use Rattle.hh_model.proofs.Next.{packs_are_few}
pub use Rattle.hh_model.proofs.Paths.{owner_le, owner_same, path_same, owner_joins}
pub use Rattle.hh_model.proofs.Runs.{waiting, grown_other, three_other, wp, below, running_tells, grown_length, grown_view, grown_view_front, grown_at, wrest_fork, three_length, three_top, three_left, three_right, three_view, parl, parr, dp, drest}
pub use Rattle.hh_model.proofs.Steps.{step_cases, runs_is, run_names, register_cases}
pub use Rattle.hh_model.proofs.Stores.{put_cases, made_cases, in_row}
pub use Rattle.hh_model.proofs.Taken.{step_taken, can_task, can_runs, step_none, can_made}
pub use Rattle.hh_model.proofs.Tree.{not_above, owner_not_joined}
