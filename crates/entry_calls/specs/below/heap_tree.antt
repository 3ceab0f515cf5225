-- Re-exports from `heap_tree` for the crates above.
pub use Rattle.heap_marking.specs.below.heap_tree.{depth_of, forked, state_of, parent_of, sibling, TaskNode, Ended, with_state, Out, TaskState, Ready}
