-- Re-exports from `ledger_step_laws` for the crates above.
pub use Rattle.refinement.specs.below.ledger_step_laws.{rested, Rests, aside, own, StepsAlone, LedgerIsKnown, ArePrivate, RunsPrivateSteps, LastKind, Reading, Writing, Printing, Forking, Ending, Joining, Finishing, Halting, Private, LastStepEndsRun, EndsFirst, EndsLast, LastStepForks, GoesOn, Halts, IdleRest, IsOfKind, JustReads, LastStepPrints, ReadsOther, Splits, WritesOther, ChangesByWrite, stepped_by}
