-- Re-exports from `task_machine` for the crates above.
pub use Rattle.heap_reading.proofs.below.task_machine.{lacks_same}
