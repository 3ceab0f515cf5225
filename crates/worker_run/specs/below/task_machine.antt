-- Re-exports from `task_machine` for the crates above.
pub use Rattle.copied_part_laws.specs.below.task_machine.{Private}
