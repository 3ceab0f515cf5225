-- Re-exports from `core_invariant` for the crates above.
pub use Rattle.heap_reading.specs.below.core_invariant.{EachPartStillFits, EntersOrRefuses, Enters, WorkerPartFits, FitsFirst, CopyingHasBegun, IsCaused, IsSamePart, IsSharedValue, NoMemory, NotEntered, OthersFit, Refuses, SharedValue, accounts, beyond, refusal_of_result, due_cause, first_cause, marks_at, need_cause, next_line, or_else, part_asks, part_of, refused, rest_at, task_asked, value_of, without_journal}
