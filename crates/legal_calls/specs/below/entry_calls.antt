-- Re-exports from `entry_calls` for the crates above.
pub use Rattle.entry_calls.specs.Ran.{LeavesBy, RanTo, LeavesPart, LentTo}
pub use Rattle.entry_calls.specs.declared.answers.Ran.TheVariants.{Done, Ended, Forked, Over}
pub use Rattle.entry_calls.specs.Ends.{end_cause}
pub use Rattle.entry_calls.specs.declared.answers.Leaving.{Leaving}
pub use Rattle.entry_calls.specs.declared.answers.Ran.{Ran}
