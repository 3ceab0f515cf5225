-- Re-exports from `heap_marking` for the crates above.
pub use Rattle.entry_calls.specs.below.heap_marking.{marking_cause, marking_cause_in, waiting_cause, waiting_cause_in, IsForkIn, IsForkOf, IsLastGoing, KeepsMarks, KeepsPace, KeepsPrevious, is_going, is_state_joined, is_to_begin, previous_of, Fork, Pace, Forked, Other, Ran}
