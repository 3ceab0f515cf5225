-- Re-exports from `heap_tree` for the crates above.
pub use Rattle.heap_reading.specs.below.heap_tree.{TaskNode, state_of}
