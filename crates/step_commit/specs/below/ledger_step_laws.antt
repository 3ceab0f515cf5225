-- Re-exports from `ledger_step_laws` for the crates above.
pub use Rattle.core_invariant.specs.below.ledger_step_laws.{Ending, EndsFirst, EndsLast, Finishing, Forking, LastStepForks, Halting, IsOfKind, Joining, JustReads, LastKind, Printing, Private, Reading, ReadsOther, Rests, RunsPrivateSteps, Splits, WritesOther, Writing, ChangesByWrite, own, rested, stepped_by}
