-- Re-exports from `task_machine` for the crates above.
pub use Rattle.core_invariant.specs.below.task_machine.{FitsNow, Places}
