-- Re-exports from `heap_tree` for the crates above.
pub use Rattle.heap_tree.specs.TaskNode.{TaskNode, child_of, depth_of, forked, node_on_path, parent_in, parent_of, root_node, set_at, state_of, with_state}
pub use Rattle.heap_tree.specs.Pairs.{is_left, sibling}
pub use Rattle.heap_tree.specs.Walk.{depth_by, depth_in, through}
pub use Rattle.heap_tree.specs.declared.state.TaskState.TheVariants.{Ended, Joined, Out, Ready, Waiting}
pub use Rattle.heap_tree.specs.declared.state.TaskState.{TaskState}
