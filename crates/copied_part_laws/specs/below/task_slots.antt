-- Re-exports from `task_slots` for the crates above.
pub use Rattle.leaf_collections.specs.below.task_slots.TaskSlotContracts as TaskSlotContracts
pub use Rattle.leaf_collections.specs.below.task_slots.TaskSlotsContracts as TaskSlotsContracts
pub use Rattle.leaf_collections.specs.below.task_slots.ParkedTaskContracts as ParkedTaskContracts
