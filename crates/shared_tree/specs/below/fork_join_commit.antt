-- Re-exports from `fork_join_commit` for the crates above.
pub use Rattle.entry_calls.specs.below.fork_join_commit.{EndsChild, running_parent, ForksOn, IsSameRest, IsUnchanged, SameButPlaces, HoldsNone}
