-- Re-exports from `entry_calls` for the crates above.
pub use Rattle.shared_tree.specs.below.entry_calls.{end_cause, GetsChunk, EndsForFuel, BeginsLeaf, EndsLeaf, BeginsMarking, MarksMore, PutsOff, EntersLeaving, EntersLent, EntersSteps, SweepsHeap, TakesTask, worker_pace, Pays, owed_by, LeavesBy, LeavesPart, LentTo, RanTo, Done, Ended, Forked, Over, Ran}
