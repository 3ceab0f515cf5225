-- Re-exports from `task_slots` for the crates above.
pub use Rattle.core_invariant.specs.below.task_slots.{marks_at, ParkedTask, Heaps, TaskSlotsValue, TaskSlot, Resting, resting_references, with_ref_in, with_resting, kept_of, keeping}
