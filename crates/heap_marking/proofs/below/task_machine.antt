-- Re-exports from `task_machine` for the crates above.
pub use Rattle.core_invariant.proofs.below.task_machine.{same_line}
