-- Re-exports from `core_invariant` for the crates above.
pub use Rattle.core_invariant.specs.Entered.{Enters, refused}
pub use Rattle.core_invariant.specs.WorkerPartFits.{WorkerPartFits, HasFrames, OthersFit, belongings_of_part, part_of}
pub use Rattle.core_invariant.specs.Links.{above_of}
pub use Rattle.core_invariant.specs.Measured.{AreMeasured, IsFree, IsMeasured, KeepsUnits}
pub use Rattle.core_invariant.specs.Next.{next_line}
pub use Rattle.core_invariant.specs.Objects.{chunk_of, chunks_of, levels_of}
pub use Rattle.core_invariant.specs.SharedValue.{SharedValue, accounts, belongings_by, belongings_in, belongings_of, first_rest, frames_down, marks_at, no_belongings, noted_in, rest_at, tree_counts_of, value_by, value_of, with_marks}
pub use Rattle.core_invariant.specs.Stands.{HeapForm, IsSharedValue}
pub use Rattle.core_invariant.specs.declared.answer.NotEntered.TheVariants.{NoMemory, Refuses}
pub use Rattle.core_invariant.specs.declared.answer.NotEntered.{NotEntered}
pub use Rattle.core_invariant.specs.declared.next_step.Ending.TheVariants.{Traps}
