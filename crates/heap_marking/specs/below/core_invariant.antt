-- Re-exports from `core_invariant` for the crates above.
pub use Rattle.core_invariant.specs.Entered.{IsSamePart, EntersOrRefuses, RanAnswers}
pub use Rattle.core_invariant.specs.SharedValue.{rest_at, value_of, without_journal, marks_at}
pub use Rattle.core_invariant.specs.Due.{IsOutPart, take_by}
pub use Rattle.core_invariant.specs.Roots.{roots_of, heaps_of, sources_of}
pub use Rattle.core_invariant.specs.Links.{above_of}
pub use Rattle.core_invariant.specs.Next.{is_beyond, is_beyond_by, is_beyond_line, is_joint, next_line}
pub use Rattle.core_invariant.specs.Causes.{chunk_cause, is_state_ready, took_cause}
pub use Rattle.core_invariant.specs.declared.next_step.Ending.TheVariants.{Prints, Beyond, Returns}
pub use Rattle.core_invariant.specs.WorkerPartFits.{taken_part, HasFrames}
pub use Rattle.core_invariant.specs.declared.next_step.Ending.{Ending}
pub use Rattle.core_invariant.specs.declared.answer.NotRan.{NotRan}
