-- Re-exports from `heap_tree` for the crates above.
pub use Rattle.core_invariant.specs.below.heap_tree.{Ended, TaskNode, Out, Ready, TaskState, depth_of, forked, parent_of, sibling, state_of, with_state}
