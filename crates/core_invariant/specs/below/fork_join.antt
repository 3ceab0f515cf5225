-- Re-exports from `fork_join` for the crates above.
pub use Rattle.fork_join.specs.Forked.{new_child, no_heap}
pub use Rattle.fork_join.specs.Joined.{AreInUse, AreRelabelled, HasCapacityForBoth, HaveEnded, JoinsSides, joined_nodes, with_results}
pub use Rattle.fork_join.specs.declared.forks.Child.{Child}
pub use Rattle.fork_join.specs.declared.sides.EndedChild.{EndedChild}
pub use Rattle.fork_join.specs.declared.sides.Side.{Side}
