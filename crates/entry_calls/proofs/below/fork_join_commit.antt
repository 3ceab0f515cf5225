-- Re-exports from `fork_join_commit` for the crates above.
pub use Rattle.fork_join_commit.proofs.ChildEnded.{alone_ends, alone_world as alone_end_world}
pub use Rattle.fork_join_commit.proofs.ChildReturns.{AsksEnd, asked_alone, asks_end, own_made, parent_low, tree_parent, asked}
pub use Rattle.fork_join_commit.proofs.ForkEntries.{alone_forks, alone_world, rests_fork_by}
pub use Rattle.fork_join_commit.proofs.JoinEntries.{other_made, parent_slot, parent_is, parent_other}
pub use Rattle.fork_join_commit.proofs.JoinPlaces.{same_itself, same_world, placed_has, placed_same, places_world, places_ends, places_same, places_fit}
pub use Rattle.fork_join_commit.proofs.JoinTakes.{left_by}
pub use Rattle.fork_join_commit.proofs.JoinValue.{Put, Taken, both_made, can_join}
pub use Rattle.fork_join_commit.proofs.NextStepForks.{AsksFork, asked_alone as asked_alone_forks, asks_fork, few_tasks, on, tree_out, fork_shared, forks_to, is_par_line, par_is, deep_traps}
pub use Rattle.fork_join_commit.proofs.JoinEntries as JoinEntries
