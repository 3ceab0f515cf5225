-- Re-exports from `task_machine` for the crates above.
pub use Rattle.refinement_laws.specs.below.task_machine.{AreAt, HasReservedUnits, Begun, Due, FitsNow, FitsSome, FrameStands, FramesStand, NamesAddress, HeapMatchesAccount, IsLastLarge, IsLastSmall, IsSafe, HeapIsShaped, KeepsAccounts, KeepsRest, NeedChunk, Paused, Pauses, PausesBy, Places, Private, Ran, RanBy, RunsSteps, Shared, Spent, account_after, account_by, birth_of, blank, is_fork, is_par, is_part_due, is_part_in_need, lacks_place, large_names, name_of, named_by, names_in, outline_after, outline_by, outline_of, outline_of_cell, outline_of_chunk, small_lists, steps, the_row, unended}
pub use Rattle.refinement_laws.specs.below.task_machine.PrivateContracts as PrivateContracts
