-- Re-exports from `ledger_step_laws` for the crates above.
pub use Rattle.ledger_step_laws.specs.Accounts.{AlikeFor, ArePrivate, ChangesHeap, LedgerIsKnown, Leaves, Rests, SameTasks, StepsAlone, WorkerTakes, WritesOne, aside, own, rested}
pub use Rattle.ledger_step_laws.specs.Kinds.{TasksCanJoin, EndsTask, ForksTask, JoinsTasks, StoresNumber, StoresOne, onward_with}
pub use Rattle.ledger_step_laws.specs.LastStepCases.{Ending, LastStepEndsRun, EndsFirst, EndsLast, Finishing, Forking, LastStepForks, GoesOn, Halting, Halts, IdleRest, IsOfKind, Joining, JustReads, LastKind, Printing, LastStepPrints, Private, Reading, ReadsOther, RunsPrivateSteps, Splits, WritesOther, Writing, ChangesByWrite, stepped_by}
