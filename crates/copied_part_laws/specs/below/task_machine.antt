-- Re-exports from `task_machine` for the crates above.
pub use Rattle.leaf_collections.specs.below.task_machine.{Begun, Private}
pub use Rattle.leaf_collections.specs.below.task_machine.PrivateContracts as PrivateContracts
