-- Re-exports from `core_invariant` for the crates above.
pub use Rattle.core_invariant.specs.Causes.{chunk_cause, first_cause, is_state_ready, or_else, took_cause, need_cause}
pub use Rattle.core_invariant.specs.Due.{IsOutPart, due_cause, take_by}
pub use Rattle.core_invariant.specs.Entered.{EntersOrRefuses, Enters, IsCaused, IsSamePart, RanAnswers, refusal_of_result, refused}
pub use Rattle.core_invariant.specs.WorkerPartFits.{EachPartStillFits, WorkerPartFits, OthersFit, belongings_of_part, taken_part}
pub use Rattle.core_invariant.specs.LeafBegin.{CopyingHasBegun}
pub use Rattle.core_invariant.specs.Links.{FitsFirst, above_of}
pub use Rattle.core_invariant.specs.Measured.{AreMeasured, AreUnits, news_of}
pub use Rattle.core_invariant.specs.Next.{is_beyond, is_beyond_by, is_beyond_line, is_joint, next_line, part_asks}
pub use Rattle.core_invariant.specs.Objects.{chunk_of, chunks_of}
pub use Rattle.core_invariant.specs.Roots.{heaps_of, roots_of, sources_of}
pub use Rattle.core_invariant.specs.SharedValue.{SharedValue, accounts, belongings_with, frames_down, marks_at, rest_at, value_of, without_journal}
pub use Rattle.core_invariant.specs.Stands.{HeapForm, IsSharedValue}
pub use Rattle.core_invariant.specs.declared.answer.NotEntered.TheVariants.{NoMemory, Refuses}
pub use Rattle.core_invariant.specs.declared.answer.NotEntered.{NotEntered}
pub use Rattle.core_invariant.specs.declared.answer.NotRan.{NotRan}
pub use Rattle.core_invariant.specs.declared.next_step.Ending.TheVariants.{Beyond, Prints, Returns}
pub use Rattle.core_invariant.specs.declared.next_step.Ending.{Ending}
