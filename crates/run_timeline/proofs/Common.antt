-- The names of lower crates and of the specifications that these proofs use. Declares nothing.
pub use Rattle.json_text.proofs.Texts.{arrays_are_joined}
pub use Rattle.json_text.specs.Json.{Json, Word, NoMember, Member, Members, json, further, more_member, more_members, Number, first_members, first_member}
pub use Rattle.json_text.specs.below.quoted_text.{quoted, task_name}
pub use Rattle.run_journal.proofs.Replays.{cut}
pub use Rattle.run_journal.proofs.below.hh_model.{next_name, counted_step, runs_are_counted, IsForkJoinState, run_is_fork_join_state, start_is_fork_join_state, step_is_fork_join_state, can_made, step_idle}
pub use Rattle.run_journal.proofs.below.journal_laws.{words_are_accounted}
pub use Rattle.run_journal.proofs.below.plain_vec.{got_within, got_some}
pub use Rattle.run_journal.proofs.below.run_ledger.{after_cut, legal_then, Grown, grown, entries_move_machine, machine_is_run, sum_flat}
pub use Rattle.run_journal.specs.BookValue.{BookValue}
pub use Rattle.run_journal.specs.below.hh_lang.{ProgramText}
pub use Rattle.run_journal.specs.below.hh_model.{Name, MachineState, Counted, row_of, IsStored, asked, can_step, run_from, start, step, TaskStatus, Running, Waiting, Ended, Joined, Task}
pub use Rattle.run_journal.specs.below.or_no_memory.{NoMemory, OrNoMemory, Refused, Reports}
pub use Rattle.run_journal.specs.below.run_ledger.{Ledger, collected, held_in, swept_heap, words_at, after, after_kind, refusal, after_all, is_legal, ledger_of, opening, tasks_in, tasks_of, freed_by_end, freed_by_sweep, tally, store_words, RefusedAt, RunEnd, or_short, in_use, first_refused_from, first_refused, end_of, refused_as_run}
pub use Rattle.run_journal.specs.below.run_trace.{Kind, Took, Ran, Chunk, Begin, End, PutOff, Mark, More, Sweep, Fuel, EntryValue, SettingsValue, field_limit}
pub use Rattle.run_report.proofs.Sums.{lost_is, accounts_on, refused_on}
pub use Rattle.run_report.specs.Totals.{cleared_words}
pub use Rattle.run_timeline.specs.Entries.{slice_name, entry_events, fork_events, task_begins, slice, begins_and_ends, taken, first_taken, task_end_events, end_events, join_events, chunks_counted, counter, counter_events, run_ended, words_counted, numbers_of, collection, fork_line, marking, end_name, end_members}
pub use Rattle.run_timeline.specs.Events.{process, lane, arrow_begins, arrow_ends, arguments, two_numbers, event, end_time, middle_time, span, one_number}
pub use Rattle.run_timeline.specs.Laws.{is_slice, slices_of, SlicesAreEntries}
pub use Rattle.run_timeline.specs.Pieces.{beginning, event_ending, span_head, event_head}
pub use Rattle.run_timeline.specs.Timeline.{events_from, events_of, lanes, timeline}
pub use Rattle.run_timeline.specs.Words.{WordsFollowEntries, objects_by, objects_made, words_by, words_held, words_made, counts_of}
pub use Rattle.run_timeline.specs.declared.words.AccountCounts.{AccountCounts}
pub use Rattle.std.proofs.Common.{◌≡◌, ℕ, zero, suc, ◌+◌, ◌-◌, ◌<◌, ◌≤◌, true, false, inl, inr, Option, Some, None, List, [], ◌∷◌, ◌++◌, length, slice_get, replicate, refl, ap, ap₂, sym, subst, ◌∙◌, arith, is_some, ◌==◌, take, drop, get_or, append_assoc, append-nil, length-append, Bool, cond, rules, Err}
pub use Rattle.std.proofs.Math.Seq.{take-append_seam}
pub use Rattle.std.proofs.lemmas.Bool.{cases_Bool, cases_lt}
pub use Rattle.std.proofs.lemmas.Grind.{flat_map-append}
pub use Rattle.std.proofs.lemmas.List.Elements.{filter-append}
pub use Rattle.std.proofs.lemmas.Result.{on_ok_weaker, err_from_is_err_and}
pub use Rattle.std.specs.Fmt.{decimal}
pub use Rattle.std.specs.List.{flat_map, filter}
pub use Rattle.std.specs.Prelude.{◌≢◌, codes, slice_set, IfErr}
