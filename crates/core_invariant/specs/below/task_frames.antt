-- Re-exports from `task_frames` for the crates above.
pub use Rattle.refinement_laws.specs.below.task_frames.{CallFrame, FramesValue, frames_of, int_of, led_frame, ref_of, references_of, frames_with_int, with_next, with_reference}
