-- Re-exports from `heap_tree` for the crates above.
pub use Rattle.core_invariant.specs.below.heap_tree.{Ended, Joined, TaskNode, Out, Ready, TaskState, Waiting, parent_of, state_of}
