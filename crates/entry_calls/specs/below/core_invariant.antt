-- Re-exports from `core_invariant` for the crates above.
pub use Rattle.leaf_collections.specs.below.core_invariant.{first_cause, need_cause, or_else, due_cause, Enters, IsCaused, refusal_of_result, refused, EachPartStillFits, WorkerPartFits, OthersFit, CopyingHasBegun, FitsFirst, part_asks, SharedValue, accounts, IsSharedValue, NotEntered, NoMemory, Refuses}
pub use Rattle.heap_marking.specs.below.core_invariant.{IsSamePart, rest_at, value_of, IsOutPart, EntersOrRefuses, RanAnswers, without_journal, roots_of, above_of, is_beyond, is_beyond_by, is_beyond_line, is_joint, next_line, chunk_cause, take_by, heaps_of, sources_of, Prints, marks_at, taken_part, Ending, Beyond, Returns, NotRan, is_state_ready, took_cause, HasFrames}
