-- Re-exports from `core_invariant` for the crates above.
pub use Rattle.core_invariant.specs.Causes.{first_cause, need_cause, or_else, task_asked}
pub use Rattle.core_invariant.specs.Due.{due_cause}
pub use Rattle.core_invariant.specs.Entered.{EntersOrRefuses, Enters, IsCaused, IsSamePart, refusal_of_result, refused}
pub use Rattle.core_invariant.specs.WorkerPartFits.{EachPartStillFits, WorkerPartFits, OthersFit, belongings_of_part, beyond, part_of}
pub use Rattle.core_invariant.specs.LeafBegin.{CopyingHasBegun}
pub use Rattle.core_invariant.specs.Links.{FitsFirst}
pub use Rattle.core_invariant.specs.Measured.{IsFree}
pub use Rattle.core_invariant.specs.Next.{next_line, part_asks}
pub use Rattle.core_invariant.specs.Objects.{chunk_of, chunks_of}
pub use Rattle.core_invariant.specs.SharedValue.{SharedValue, accounts, belongings_in, marks_at, rest_at, value_of, without_journal}
pub use Rattle.core_invariant.specs.Stands.{IsSharedValue}
pub use Rattle.core_invariant.specs.declared.answer.NotEntered.TheVariants.{NoMemory, Refuses}
pub use Rattle.core_invariant.specs.declared.answer.NotEntered.{NotEntered}
