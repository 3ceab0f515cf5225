-- Re-exports from `fork_join` for the crates above.
pub use Rattle.core_invariant.specs.below.fork_join.{AreInUse, AreRelabelled, Child, EndedChild, HasCapacityForBoth, HaveEnded, JoinsSides, Side, joined_nodes, new_child, no_heap, with_results}
