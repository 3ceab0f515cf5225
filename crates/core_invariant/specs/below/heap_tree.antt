-- Re-exports from `heap_tree` for the crates above.
pub use Rattle.refinement_laws.specs.below.heap_tree.{Ended, Joined, TaskNode, Out, Ready, TaskState, Waiting, child_of, depth_by, depth_in, depth_of, forked, is_left, node_on_path, parent_in, parent_of, sibling, state_of, through, with_state}
