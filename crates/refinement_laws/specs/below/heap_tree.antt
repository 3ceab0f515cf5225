-- Re-exports from `heap_tree` for the crates above.
pub use Rattle.refinement.specs.below.heap_tree.{TaskNode, root_node, TaskState, Out, set_at, with_state, parent_in, parent_of, Ready, Waiting, Ended, Joined, state_of, child_of, depth_by, depth_in, depth_of, forked, is_left, node_on_path, sibling, through}
