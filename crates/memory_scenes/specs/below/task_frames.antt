-- Re-exports from `task_frames` for the crates above.
pub use Rattle.task_frames.specs.FramesValue.{FramesValue}
