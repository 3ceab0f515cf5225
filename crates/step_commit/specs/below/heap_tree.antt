-- Re-exports from `heap_tree` for the crates above.
pub use Rattle.core_invariant.specs.below.heap_tree.{Ended, Joined, TaskNode, Out, Ready, TaskState, Waiting, child_of, depth_of, forked, is_left, node_on_path, parent_of, sibling, state_of, with_state}
