-- The names of lower crates and of the specifications that these proofs use. Declares nothing.
pub use Rattle.run_statistics.specs.below.entry_calls.{GetsChunk, EndsForFuel, BeginsLeaf, EndsLeaf, BeginsMarking, MarksMore, PutsOff, EntersLeaving, EntersLent, EntersSteps, SweepsHeap, TakesTask, worker_pace, Pays, owed_by, LeavesBy, LeavesPart, LentTo}
pub use Rattle.gc_pacer.specs.Paces.{AreIdle, KeepsPaces, NotesAt, SameMarks, KeepsNoted, NotesOther}
pub use Rattle.gc_pacer.specs.declared.paced.Pacer.{Pacer}
pub use Rattle.run_statistics.proofs.EntryCounted.{ran_enters, lent_enters}
pub use Rattle.run_statistics.proofs.below.core_invariant.{entry_on}
pub use Rattle.run_statistics.proofs.below.heap_marking.{keeps_items, entered_accounts, mark_kept, steps_kept, paces_stay, fork_is, goes_free, joined_is, joined_stops, begin_stops, begin_counted, begin_marked, drop_keeps, owed_is, owed_marks, marked_free}
pub use Rattle.run_statistics.proofs.below.journal_laws.{idle_at, pace_goes_on, length_opening, pace_same}
pub use Rattle.run_statistics.proofs.below.ledger_step_laws.{heap_then, with_at}
pub use Rattle.run_statistics.proofs.below.plain_vec.{got_within, got_some, got_other, some_map}
pub use Rattle.run_statistics.proofs.below.run_ledger.{entry_tells, legal_sound, wait_tells, heap_end, heap_machine}
pub use Rattle.run_statistics.proofs.below.shared_tree.{handed_on}
pub use Rattle.run_statistics.specs.below.core_invariant.{NotEntered, NoMemory, Refuses, SharedValue, accounts, refused, Enters, IsSharedValue, refusal_of_result, WorkerPartFits, IsCaused, marks_at}
pub use Rattle.run_statistics.specs.below.fork_join_commit.{IsUnchanged}
pub use Rattle.run_statistics.specs.below.heap_marking.{Pace, Other, KeepsPace, KeepsPrevious, Fork, IsForkOf, previous_of, IsForkIn, waiting_cause, waiting_cause_in, is_state_joined, is_going, Forked, marking_cause, marking_cause_in, IsLastGoing}
pub use Rattle.run_statistics.specs.below.heap_tree.{TaskNode, state_of}
pub use Rattle.run_statistics.specs.below.hh_lang.{ProgramText}
pub use Rattle.run_statistics.specs.below.hh_model.{MachineState, Task, is_waiting, joined}
pub use Rattle.run_statistics.specs.below.leaf_collections.{end_entry}
pub use Rattle.run_statistics.specs.below.mark_sweep_gc.{MarkingValue}
pub use Rattle.run_statistics.specs.below.run_ledger.{ledger_of, idle, is_paced, pace_at_end, pace_of, Ledger, Heap, heap_of, or_fresh, with_heap, SoundLedger, WorkerPace, after, is_fuel, after_all, opening, pace_noted, or_idle, pace_after, pace_after_all, pace_opening, Refused, owed_to_marks}
pub use Rattle.run_statistics.specs.below.run_trace.{SettingsValue, Mark, Kind, Fuel, Ran, EntryValue, Chunk, Begin, More, PutOff, Sweep, Took}
pub use Rattle.run_statistics.specs.below.step_commit.{alone_entry, IsShared}
pub use Rattle.run_statistics.specs.below.task_machine.{Private}
pub use Rattle.run_statistics.specs.below.write_barrier.{SetOf}
pub use Rattle.std.proofs.Common.{◌≡◌, ℕ, List, [], slice_get, inl, inr, ap, sym, subst, ◌∙◌, ◌<◌, true, Option, Some, None, length, refl, arith, is_some, is_none, ◌≢◌, ◌⊎◌, zero, suc, ◌≤◌, ◌∷◌, ◌++◌, slice_set, length-set, Ok, ◌+◌, Bool, false, not, nat_le, ap₂, ◌-◌, get_or, cond}
pub use Rattle.std.proofs.lemmas.Bool.{cases_eq, false≢true}
pub use Rattle.std.proofs.lemmas.Option.{same_Some, slice_get-get_or}
pub use Rattle.std.specs.Prelude.{OnErr, OnOk, Result, Err}
