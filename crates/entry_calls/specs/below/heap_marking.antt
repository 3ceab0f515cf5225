-- Re-exports from `heap_marking` for the crates above.
pub use Rattle.heap_marking.specs.MarkCauses.{marking_cause, waiting_cause, words_cause, marking_cause_in, waiting_cause_in}
pub use Rattle.heap_marking.specs.Marking.{Further}
pub use Rattle.heap_marking.specs.Starts.{MarkingHasBegun, starts_in}
pub use Rattle.heap_marking.specs.Sweeping.{SweepsSlot}
pub use Rattle.heap_marking.specs.Pace.{IsForkIn, IsForkOf, IsLastGoing, KeepsMarks, KeepsPace, KeepsPrevious, is_going, is_state_joined, is_to_begin, previous_of}
pub use Rattle.heap_marking.specs.declared.pace.Fork.{Fork}
pub use Rattle.heap_marking.specs.declared.pace.Pace.{Pace}
pub use Rattle.heap_marking.specs.declared.pace.PreviousKind.TheVariants.{Forked, Other, Ran}
