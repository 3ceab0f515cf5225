-- Re-exports from `task_machine` for the crates above.
pub use Rattle.leaf_collections.specs.below.task_machine.{Due, FitsSome, KeepsAccounts, KeepsRest, NeedChunk, Paused, Pauses, PausesBy, Private, RunsSteps, Shared, Spent, is_part_due, lacks_place, steps, the_row, unended}
pub use Rattle.heap_marking.specs.below.task_machine.{FitsNow, Places}
