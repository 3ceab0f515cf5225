-- Re-exports from `task_machine` for the crates above.
pub use Rattle.task_machine.specs.Accounts.{HasReservedUnits, HeapMatchesAccount, IsLastLarge, IsLastSmall, KeepsAccounts, RanBy, account_after, account_by, large_names, named_by, names_in, small_lists}
pub use Rattle.task_machine.specs.Fits.{FitsNow, HeapStands, IsOwnObject, IsReachedByRun, HeapIsShaped, IsShownBy, StackStands, unended}
pub use Rattle.task_machine.specs.Outline.{blank, outline_after, outline_by, outline_of, outline_of_cell, outline_of_chunk, steps}
pub use Rattle.task_machine.specs.Place.{AreAt, FrameStands, FramesStand, NamesAddress, Places, birth_of, name_of}
pub use Rattle.task_machine.specs.Ready.{FitsSome, IsSafe}
pub use Rattle.task_machine.specs.Run.{KeepsRest, Pauses, PausesBy, Ran, RunsSteps, is_fork, is_par}
pub use Rattle.task_machine.specs.Steps.{is_part_due, is_part_in_need, lacks_place}
pub use Rattle.task_machine.specs.contracts.part.Private.{the_row}
pub use Rattle.task_machine.specs.declared.part.Begun.{Begun}
pub use Rattle.task_machine.specs.declared.part.Paused.TheVariants.{Due, NeedChunk, Shared, Spent}
pub use Rattle.task_machine.specs.declared.part.Paused.{Paused}
pub use Rattle.task_machine.specs.declared.part.Private.{Private}
pub use Rattle.task_machine.specs.contracts.part.Private as PrivateContracts
