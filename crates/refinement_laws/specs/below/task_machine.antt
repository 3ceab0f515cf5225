-- Re-exports from `task_machine` for the crates above.
pub use Rattle.refinement.specs.below.task_machine.{IsSafe, Private, Begun, small_lists, HasReservedUnits, HeapMatchesAccount, large_names, named_by, names_in, name_of, FitsNow, FrameStands, Places, IsLastLarge, IsLastSmall, outline_of_cell, outline_of_chunk, outline_after, outline_by, outline_of, steps, AreAt, FramesStand, NamesAddress, birth_of, HeapStands, IsOwnObject, IsReachedByRun, IsShownBy, StackStands, HeapIsShaped, unended, Ran, is_part_due, Due, FitsSome, KeepsAccounts, KeepsRest, NeedChunk, Paused, Pauses, PausesBy, RanBy, RunsSteps, Shared, Spent, account_after, account_by, blank, is_fork, is_par, is_part_in_need, lacks_place, the_row}
pub use Rattle.refinement.specs.below.task_machine.PrivateContracts as PrivateContracts
