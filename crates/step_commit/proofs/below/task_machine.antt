-- Re-exports from `task_machine` for the crates above.
pub use Rattle.core_invariant.proofs.below.task_machine.{born_is, born_object, is_some_place, same_line}
