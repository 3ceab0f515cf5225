-- Re-exports from `entry_calls` for the crates above.
pub use Rattle.entry_calls.specs.Calls.{GetsChunk, EndsForFuel, BeginsLeaf, EndsLeaf, BeginsMarking, MarksMore, PutsOff, EntersLeaving, EntersLent, EntersSteps, SweepsHeap, TakesTask}
pub use Rattle.entry_calls.specs.Ran.{LentTo, RanTo, LeavesBy, LeavesPart}
pub use Rattle.entry_calls.specs.declared.answers.Leaving.{Leaving}
pub use Rattle.entry_calls.specs.declared.answers.Lent.TheVariants.{Goes, Leaves, Over as HasEnded}
pub use Rattle.entry_calls.specs.declared.answers.Lent.{Lent}
pub use Rattle.entry_calls.specs.declared.answers.Ran.TheVariants.{Forked, Ended, Over, Done}
pub use Rattle.entry_calls.specs.declared.answers.Ran.{Ran}
pub use Rattle.entry_calls.specs.Ends.{end_cause}
pub use Rattle.entry_calls.specs.Owed.{worker_pace, Pays, owed_by}
