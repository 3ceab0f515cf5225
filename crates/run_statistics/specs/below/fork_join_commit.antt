-- Re-exports from `fork_join_commit` for the crates above.
pub use Rattle.shared_tree.specs.below.fork_join_commit.{EndsChild, ForksOn, HoldsNone, IsSameRest, IsUnchanged, SameButPlaces, running_parent}
