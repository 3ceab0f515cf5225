-- Re-exports from `task_frames` for the crates above.
pub use Rattle.task_frames.specs.FramesValue.{FramesValue, frames_of, frames_with_int, int_of, led_frame, ref_of, references_of, with_next, with_reference}
pub use Rattle.task_frames.specs.declared.frames.CallFrame.{CallFrame}
