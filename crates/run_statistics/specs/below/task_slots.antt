-- Re-exports from `task_slots` for the crates above.
pub use Rattle.heap_reading.specs.below.task_slots.{ParkedTask}
