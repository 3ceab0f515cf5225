-- Re-exports from `task_frames` for the crates above.
pub use Rattle.core_invariant.specs.below.task_frames.{FramesValue}
