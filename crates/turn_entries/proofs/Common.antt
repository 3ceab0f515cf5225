-- The names of lower crates and of the specifications that these proofs use. Declares nothing.
pub use Rattle.entry_calls.proofs.below.core_invariant.{asked_same, end_now, steps_now, refused_is, ran_answer, second_gives_first, beyond_machine}
pub use Rattle.entry_calls.proofs.below.heap_marking.{marks_refuse, or_none, entered_accounts}
pub use Rattle.entry_calls.proofs.below.hh_model.{steps_count, run_is_fork_join_state, start_is_fork_join_state, step_is_fork_join_state}
pub use Rattle.entry_calls.proofs.below.journal_laws.{owed_can_be_given, not_refused, journals_are_counted}
pub use Rattle.entry_calls.proofs.below.leaf_collections.{begin_answer, chunk_answer, put_off_answer, without_fresh, end_free}
pub use Rattle.entry_calls.proofs.below.plain_vec.{none_of}
pub use Rattle.entry_calls.proofs.below.run_ledger.{steps_are_bounded, machine_is_run}
pub use Rattle.entry_calls.proofs.below.step_commit.{fits_on, next_on, ran, alone_free}
pub use Rattle.entry_calls.specs.Calls.{EntersLeaving}
pub use Rattle.entry_calls.specs.Ends.{end_cause}
pub use Rattle.entry_calls.specs.Owed.{owed_by, Pays}
pub use Rattle.entry_calls.specs.Ran.{LeavesBy, LeavesPart, LentTo, RanTo}
pub use Rattle.entry_calls.specs.below.chunk_pool.{units_in_use}
pub use Rattle.entry_calls.specs.below.copying_gc.{Moved, ToChunks}
pub use Rattle.entry_calls.specs.below.core_invariant.{first_cause, IsSharedValue, SharedValue, accounts, NotEntered, NoMemory, Refuses, need_cause, or_else, due_cause, IsCaused, refused, WorkerPartFits, part_asks, FitsFirst, Enters, EachPartStillFits, OthersFit, CopyingHasBegun, refusal_of_result}
pub use Rattle.entry_calls.specs.below.fork_join_commit.{running_parent, HoldsNone, IsUnchanged, SameButPlaces, EndsChild, ForksOn}
pub use Rattle.entry_calls.specs.below.heap_marking.{marking_cause}
pub use Rattle.entry_calls.specs.below.hh_lang.{ProgramText}
pub use Rattle.entry_calls.specs.below.hh_model.{asked, MachineState, Counted, row_of, IsForkJoinState}
pub use Rattle.entry_calls.specs.below.leaf_collections.{FitsCopied, without_collection, end_entry}
pub use Rattle.entry_calls.specs.below.leaf_heap.{place_for, room_of, LeafHeapValue}
pub use Rattle.entry_calls.specs.below.run_ledger.{Refused, is_pool_enough, Collecting, NoWorker, NotDue, NotNeeded, NotSpent, Over, PoolEnough, PoolShort, RunEnd, CanBeGiven, kind_refusal, refused_if, refused_unless, heap_of, sweep_number, on_asked, Nothing, Left, left_in, marked_in, gives, Ledger, tasks_of, Owed, marked_at_once}
pub use Rattle.entry_calls.specs.below.run_trace.{Kind, Begin, Fuel, PutOff, Ran, Chunk, Mark, More, Sweep, SettingsValue, field_limit, private_limit, EntryValue, Took, End}
pub use Rattle.entry_calls.specs.below.step_commit.{machine_after, IsShared, GoesAlone, HaltsAlone, alone_entry, FinishesAlone}
pub use Rattle.entry_calls.specs.below.task_machine.{Private, Paused, Due, NeedChunk, is_part_due, lacks_place, Shared, Spent, KeepsAccounts, unended, steps, FitsSome, KeepsRest, PausesBy, RunsSteps}
pub use Rattle.entry_calls.specs.declared.answers.NotLeft.{NotLeft}
pub use Rattle.entry_calls.specs.declared.answers.Ran.TheVariants.{Ended, Done}
pub use Rattle.std.proofs.Common.{◌≡◌, ℕ, ◌<◌, ◌==◌, ◌||◌, Bool, true, false, Option, Some, None, is_some, ap, sym, subst, ◌∙◌, if◌then◌else◌, nat_le, eq-eqb, ne_eqb, arith, ◌&&◌, is_none, nat_lt, refl, zero, suc, ◌+◌, ◌≤◌, length, slice_get, ◌++◌, ◌∷◌, [], List, inl, inr, rules, Result, Ok, Err, IfOk, IfErr, OnErr}
pub use Rattle.std.proofs.lemmas.Bool.{false≢true, or_right}
pub use Rattle.turn_entries.specs.Acts.{Acts, ActsFor, after_end, EndsHalted, ComesNext, Goes, WhyNone}
pub use Rattle.turn_entries.specs.First.{ComesFirst, ComesNow}
pub use Rattle.turn_entries.specs.Next.{after_steps, brought_kind, due_kind, going_kind, is_out_of_memory, next_kind, owing_kind, paused_kind}
pub use Rattle.turn_entries.specs.Parts.{IsPaused, MayRun, AtSome, HasGrown, BringsTo, next_after, MayCopy}
pub use Rattle.turn_entries.specs.Values.{is_over, EntersOne, NoEntryMade, MayEnter}
pub use Rattle.turn_entries.specs.declared.act.TurnOutcome.{TurnOutcome}
pub use Rattle.turn_entries.specs.declared.act.TurnOutcome.TheVariants.{Entered, Same}
pub use Rattle.turn_entries.specs.declared.between_turns.Next.{Next}
pub use Rattle.turn_entries.specs.declared.between_turns.Next.TheVariants.{Running, Forked, Resumed, Idle, Waits, Stop}
pub use Rattle.turn_entries.specs.declared.between_turns.Ready.{Ready}
pub use Rattle.turn_entries.specs.declared.between_turns.Ready.TheVariants.{Copied, Found, OutOfMemory}
pub use Rattle.turn_entries.specs.declared.first.First.{First}
pub use Rattle.turn_entries.specs.declared.run.Run.{Run}
