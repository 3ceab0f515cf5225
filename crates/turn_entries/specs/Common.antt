-- The names of lower crates that these specifications use. Declares nothing.
pub use Rattle.entry_calls.specs.Calls.{EntersLeaving}
pub use Rattle.entry_calls.specs.Owed.{owed_by}
pub use Rattle.entry_calls.specs.below.core_invariant.{refused, EachPartStillFits, WorkerPartFits, IsSharedValue, SharedValue, accounts, CopyingHasBegun, first_cause, Enters, OthersFit}
pub use Rattle.entry_calls.specs.below.fork_join_commit.{running_parent, HoldsNone}
pub use Rattle.entry_calls.specs.below.hh_lang.{ProgramText}
pub use Rattle.entry_calls.specs.below.leaf_collections.{FitsCopied}
pub use Rattle.entry_calls.specs.below.run_ledger.{Owed, Nothing, is_pool_enough, heap_of, sweep_number, marked_at_once}
pub use Rattle.entry_calls.specs.below.run_trace.{Kind, Took, Ran, Chunk, Begin, End, PutOff, Fuel, Mark, More, Sweep, EntryValue, private_limit}
pub use Rattle.entry_calls.specs.below.step_commit.{machine_after}
pub use Rattle.entry_calls.specs.below.task_machine.{Private, Shared, Paused, Due, NeedChunk, Spent, Pauses}
pub use Rattle.entry_calls.specs.declared.answers.NotLeft.{NotLeft}
pub use Rattle.turn_lock.specs.declared.view.SeatView.{SeatView}
