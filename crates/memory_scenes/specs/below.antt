-- Re-exports from lower crates for the crates above.
pub mod leaf_heap
pub mod object_layout
pub mod task_frames
