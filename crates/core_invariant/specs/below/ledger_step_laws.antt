-- Re-exports from `ledger_step_laws` for the crates above.
pub use Rattle.refinement_laws.specs.below.ledger_step_laws.{ArePrivate, Ending, LastStepEndsRun, EndsFirst, EndsLast, Finishing, Forking, LastStepForks, GoesOn, Halting, Halts, IdleRest, IsOfKind, Joining, JustReads, LedgerIsKnown, LastKind, Printing, LastStepPrints, Private, Reading, ReadsOther, Rests, RunsPrivateSteps, Splits, StepsAlone, WritesOther, Writing, ChangesByWrite, aside, own, rested, stepped_by}
