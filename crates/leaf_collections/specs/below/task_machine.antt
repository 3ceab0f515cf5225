-- Re-exports from `task_machine` for the crates above.
pub use Rattle.core_invariant.specs.below.task_machine.{HasReservedUnits, Begun, FitsNow, HeapMatchesAccount, IsLastLarge, IsLastSmall, Places, Private, large_names, name_of, named_by, names_in, small_lists, Due, FitsSome, KeepsAccounts, KeepsRest, NeedChunk, Paused, Pauses, PausesBy, RunsSteps, Shared, Spent, is_part_due, lacks_place, steps, the_row, unended}
pub use Rattle.core_invariant.specs.below.task_machine.PrivateContracts as PrivateContracts
