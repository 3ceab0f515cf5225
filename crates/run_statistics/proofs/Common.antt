-- The names of lower crates and of the specifications that these proofs use. Declares nothing.
pub use Rattle.shared_tree.specs.below.entry_calls.{GetsChunk, EndsForFuel, BeginsLeaf, EndsLeaf, BeginsMarking, MarksMore, PutsOff, EntersLeaving, EntersLent, EntersSteps, SweepsHeap, TakesTask, LentTo, RanTo, LeavesBy, LeavesPart, Leaving, Goes, Leaves, Lent, Forked, Ended, Over, Done}
pub use Rattle.heap_reading.proofs.KeptNames.{counted_few, counted_more, task_slots_few, kept_before, kept_task_slots, kept_more, objects_few, words_few, none_of, nothing_kept, objects_are, runs_is, words_kept}
pub use Rattle.heap_reading.proofs.below.core_invariant.{words_are}
pub use Rattle.heap_reading.proofs.below.journal_laws.{waiters_are_free, idle_then}
pub use Rattle.heap_reading.proofs.below.ledger_step_laws.{heap_then, with_at, rested_view, rested_worker}
pub use Rattle.heap_reading.proofs.below.path_laws.{waiting_stops}
pub use Rattle.heap_reading.proofs.below.plain_vec.{In, contains_from_in, none_some, got_back, got_other, got_set, got_past}
pub use Rattle.heap_reading.proofs.below.refinement.{at_belongings}
pub use Rattle.heap_reading.proofs.below.run_ledger.{legal_then, none_is, entries_leave_others, held_is, left_step, heap_off, heap_view, tasks_are_out_once, collecting_is, entry_tells, legal_sound, none_unless, none_where, out_tells, wait_tells, task_step_sound, task_steps_sound, names_are_held_once, heap_machine, heaps_fit, use_is_bounded}
pub use Rattle.heap_reading.specs.HeldNames.{held_unless_running, is_state_running}
pub use Rattle.heap_reading.specs.below.core_invariant.{NotEntered, NoMemory, Refuses, Enters, FitsFirst, refused, WorkerPartFits, IsSharedValue, SharedValue, accounts, belongings_of_part, value_of, rest_at}
pub use Rattle.heap_reading.specs.below.heap_tree.{TaskNode, state_of}
pub use Rattle.heap_reading.specs.below.hh_lang.{ProgramText}
pub use Rattle.heap_reading.specs.below.hh_model.{Name, MachineState, object_at, asked, can_step, is_running, is_waiting, step}
pub use Rattle.heap_reading.specs.below.journal_laws.{begins}
pub use Rattle.heap_reading.specs.below.leaf_heap.{saturating_words}
pub use Rattle.heap_reading.specs.below.ledger_step_laws.{aside, rested}
pub use Rattle.heap_reading.specs.below.object_layout.{held_words}
pub use Rattle.heap_reading.specs.below.plain_vec.{option_is}
pub use Rattle.heap_reading.specs.below.refinement.{with_belongings, Belongings, Memory}
pub use Rattle.heap_reading.specs.below.run_ledger.{Heap, Ledger, Pool, Refused, chunk_words, collected, end_numbers, heap_of, held_in, in_use, is_small_size, or_fresh, swept_heap, take_of, with_heap, within, words_at, words_in, object_words_of, words_sum, allocated_in, on_asked, stepped_to, task_step, task_steps, after, after_kind, chunk_units, ends_as, is_fuel, is_out, is_ready, kind_refusal, on_waiting, refusal, refused_unless, with_chunk, is_legal, ledger_of, HoldsOnce, TasksAreOut, LeavesTask, SoundAt, SoundLedger, collecting, opening, lost, held, let_go, Report, report_of, held_not_running}
pub use Rattle.heap_reading.specs.below.run_trace.{Kind, Took, Ran, Chunk, Begin, End, PutOff, Mark, More, Sweep, Fuel, EntryValue, SettingsValue}
pub use Rattle.heap_reading.specs.below.task_machine.{Private}
pub use Rattle.heap_reading.specs.below.task_slots.{ParkedTask}
pub use Rattle.legal_calls.proofs.FirstLedger.{first_worker}
pub use Rattle.run_report.proofs.Sums.{legal_few, lost_is, totals_last}
pub use Rattle.run_report.specs.Totals.{SumsFit, cleared_words, entry_totals, totals_joined, no_totals, totals_from, counted}
pub use Rattle.run_report.specs.declared.totals.Totals.{Totals}
pub use Rattle.run_statistics.specs.JournalCounts.{HasWords, IsMade, CountsJournal, begun_with, totals_of}
pub use Rattle.run_statistics.specs.declared.counting.JournalCounts.{JournalCounts}
pub use Rattle.shared_tree.proofs.HandedOn.{handed_on}
pub use Rattle.shared_tree.proofs.below.heap_marking.{entered_accounts}
pub use Rattle.shared_tree.specs.below.fork_join_commit.{IsUnchanged}
pub use Rattle.shared_tree.specs.below.leaf_collections.{end_entry}
pub use Rattle.shared_tree.specs.below.step_commit.{alone_entry, IsShared}
pub use Rattle.std.proofs.Common.{◌≡◌, ℕ, zero, suc, ◌+◌, ◌&&◌, ◌==◌, not, nat_le, Bool, true, false, cond, Option, Some, None, List, [], ◌∷◌, ◌++◌, slice_get, nat_lt, inl, inr, refl, ap, ap₂, sym, subst, ◌∙◌, is_some, is_none, ◌-◌, ◌<◌, ◌^◌, length, length-set, slice_set, arith, length-append, ◌*◌, ◌≤◌, sum_by, Ok, option_copied, option_map}
pub use Rattle.std.proofs.lemmas.Bool.{false≢true, both_ways, cases_eq, and_parts, eqb-false, eqb-true, ltb-true}
pub use Rattle.std.proofs.lemmas.List.Sums.{sum_by-cons, sum_by-append}
pub use Rattle.std.proofs.lemmas.Option.{same_Some}
pub use Rattle.std.specs.List.{flat_map}
pub use Rattle.std.specs.Option.{option_flatten}
