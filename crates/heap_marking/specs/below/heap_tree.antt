-- Re-exports from `heap_tree` for the crates above.
pub use Rattle.core_invariant.specs.below.heap_tree.{depth_of, forked, state_of, parent_of, sibling, TaskNode, Ended, with_state, Out, TaskState, Ready}
