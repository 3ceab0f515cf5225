-- Re-exports from `task_frames` for the crates above.
pub use Rattle.refinement.specs.below.task_frames.{int_of, FramesValue, CallFrame, ref_of, frames_of, led_frame, references_of, frames_with_int, with_next, with_reference}
