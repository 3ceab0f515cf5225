-- Re-exports from `fork_join_commit` for the crates above.
pub use Rattle.fork_join_commit.specs.ChildEnds.{EndsChild, running_parent, IsAtEnd, is_last_return, is_last_by, is_last_line}
pub use Rattle.fork_join_commit.specs.Forks.{ForksOn, begun_rest, part_child, waiting_rest, SetsFork, ForksTo, IsAtFork, is_fork, is_fork_by, is_par, RestsFork}
pub use Rattle.fork_join_commit.specs.Joins.{IsUnchanged, SameButPlaces, own_child, GetsPlaces, SameButPlacesOf, HasPlaces, CanJoin, parent_side, IsSameRest}
pub use Rattle.fork_join_commit.specs.NoTask.{HoldsNone}
