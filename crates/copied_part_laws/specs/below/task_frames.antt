-- Re-exports from `task_frames` for the crates above.
pub use Rattle.leaf_collections.specs.below.task_frames.{FramesValue}
