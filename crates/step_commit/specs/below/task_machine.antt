-- Re-exports from `task_machine` for the crates above.
pub use Rattle.core_invariant.specs.below.task_machine.{HasReservedUnits, FitsNow, HeapMatchesAccount, IsLastLarge, IsLastSmall, Places, Private, is_fork, is_par}
