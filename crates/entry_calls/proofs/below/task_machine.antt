-- Re-exports from `task_machine` for the crates above.
pub use Rattle.heap_marking.proofs.below.task_machine.{same_line}
