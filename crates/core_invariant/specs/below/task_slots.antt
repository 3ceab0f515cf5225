-- Re-exports from `task_slots` for the crates above.
pub use Rattle.task_slots.specs.TaskSlotsValue.{TaskSlotsValue, IsSameRest, keeping, keeps_of, kept_of, marks_at, refs_of_rest, rest_at, sources_of}
pub use Rattle.task_slots.specs.RestingHeaps.{Resting, refs_for, resting_references, resting, with_ref_in, with_resting}
pub use Rattle.task_slots.specs.declared.heaps.Heaps.{Heaps}
pub use Rattle.task_slots.specs.declared.slots.TaskSlot.{TaskSlot}
pub use Rattle.task_slots.specs.declared.task_at_rest.ParkedTask.{ParkedTask}
pub use Rattle.task_slots.specs.declared.task_at_rest.Work.TheVariants.{Calls, Result}
pub use Rattle.task_slots.specs.declared.task_at_rest.Work.{Work}
pub use Rattle.task_slots.specs.contracts.slots.TaskSlot as TaskSlotContracts
pub use Rattle.task_slots.specs.contracts.slots.TaskSlots as TaskSlotsContracts
pub use Rattle.task_slots.specs.contracts.task_at_rest.ParkedTask as ParkedTaskContracts
