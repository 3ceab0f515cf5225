-- Re-exports from `heap_marking` for the crates above.
pub use Rattle.shared_tree.specs.below.heap_marking.{Fork, Forked, IsForkIn, IsForkOf, IsLastGoing, KeepsMarks, KeepsPace, KeepsPrevious, Other, Pace, Ran, is_going, is_state_joined, is_to_begin, marking_cause, marking_cause_in, previous_of, waiting_cause, waiting_cause_in}
