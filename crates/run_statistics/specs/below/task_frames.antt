-- Re-exports from `task_frames` for the crates above.
pub use Rattle.heap_reading.specs.below.task_frames.{FramesValue}
