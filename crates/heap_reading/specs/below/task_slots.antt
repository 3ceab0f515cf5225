-- Re-exports from `task_slots` for the crates above.
pub use Rattle.core_invariant.specs.below.task_slots.{ParkedTask, sources_of}
