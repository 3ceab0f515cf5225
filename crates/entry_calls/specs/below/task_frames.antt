-- Re-exports from `task_frames` for the crates above.
pub use Rattle.heap_marking.specs.below.task_frames.{FramesValue, frames_with_int, with_next, with_reference}
