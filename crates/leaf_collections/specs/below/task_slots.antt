-- Re-exports from `task_slots` for the crates above.
pub use Rattle.core_invariant.specs.below.task_slots.{Heaps, TaskSlot, TaskSlotsValue, ParkedTask, Resting, keeping, kept_of, marks_at, resting_references, with_ref_in, with_resting}
pub use Rattle.core_invariant.specs.below.task_slots.TaskSlotContracts as TaskSlotContracts
pub use Rattle.core_invariant.specs.below.task_slots.TaskSlotsContracts as TaskSlotsContracts
pub use Rattle.core_invariant.specs.below.task_slots.ParkedTaskContracts as ParkedTaskContracts
