-- The names of lower crates and of the specifications that these proofs use. Declares nothing.
pub use Rattle.hh_lang.specs.Form.{ProgramText}
pub use Rattle.hh_model.specs.declared.data.MachineState.{MachineState}
pub use Rattle.journal_laws.proofs.Words.{words_are_accounted}
pub use Rattle.plain_vec.proofs.Members.{got_same}
pub use Rattle.run_journal.proofs.Replays.{accounts_next, refused_next}
pub use Rattle.run_journal.proofs.Steadies.{legal_stored}
pub use Rattle.run_journal.specs.BookValue.{BookValue}
pub use Rattle.run_ledger.proofs.Cuts.{after_cut, joined_legal}
pub use Rattle.run_ledger.proofs.Machine.{machine_is_run}
pub use Rattle.run_ledger.specs.Entries.{refusal, after_kind, after}
pub use Rattle.run_ledger.specs.Heaps.{fresh, heap_at, heap_of, or_fresh, with_heap, with_heap_at, words_in, in_use, collected, swept_heap}
pub use Rattle.run_ledger.specs.Journals.{opening, after_all, ledger_of, is_legal, first_refused_from, first_refused, end_of, refused_as_run}
pub use Rattle.run_ledger.specs.Report.{tally, lost, count_end, count_putoff, count_sweep, freed_by_end, freed_by_sweep}
pub use Rattle.run_ledger.specs.Text.{cause_words, refused_words, refused_line, output_lines, report_lines, end_line_of, out_text}
pub use Rattle.run_ledger.specs.declared.data.Heap.{Heap}
pub use Rattle.run_ledger.specs.declared.data.Ledger.{Ledger}
pub use Rattle.run_ledger.specs.declared.data.Refused.{Refused}
pub use Rattle.run_ledger.specs.declared.data.Refused.TheVariants.{Over, Spent, NoWorker, NotReady, Holding, NotOut, Collecting, NotCollecting, NotWaiting, Swept, Marking, NotMarking, Long, Due, NotNeeded, NotDue, PoolShort, PoolEnough, Marked, Left, Count, NotSpent, Short, Stopped}
pub use Rattle.run_ledger.specs.declared.data.RefusedAt.{RefusedAt}
pub use Rattle.run_ledger.specs.declared.data.Report.{Report}
pub use Rattle.run_ledger.specs.declared.data.RunEnd.{RunEnd}
pub use Rattle.run_report.specs.Totals.{SumsFit, no_totals, totals_joined, counted, cleared_words, entry_totals, totals_from, report_from}
pub use Rattle.run_report.specs.Written.{report_part, trace_part, text_from}
pub use Rattle.run_report.specs.declared.totals.Totals.{Totals}
pub use Rattle.run_trace.specs.below.or_no_memory.{Reports}
pub use Rattle.run_trace.specs.Entry.{EntryValue}
pub use Rattle.run_trace.specs.Settings.{SettingsValue, AreSettings}
pub use Rattle.run_trace.specs.declared.entry.Kind.{Kind}
pub use Rattle.run_trace.specs.declared.entry.Kind.TheVariants.{Took, Ran, Chunk, Begin, End, PutOff, Mark, More, Sweep, Fuel}
pub use Rattle.run_trace.specs.declared.settings.Version.{Version}
pub use Rattle.std.proofs.Common.{◌≡◌, ℕ, List, [], ◌∷◌, ◌++◌, codes, refl, append_assoc, zero, suc, ◌+◌, ◌-◌, ◌<◌, ◌≤◌, ◌^◌, ◌&&◌, true, is_none, take, ap₂, subst, Option, Some, None, length, drop, get_or, max, ap, sym, ◌∙◌, arith, length-append, length-take-le, Bool, rules, false, IfOk, IfErr}
pub use Rattle.std.proofs.lemmas.List.{take_all}
pub use Rattle.std.proofs.lemmas.Result.{on_ok_weaker, IfOk-weaker}
pub use Rattle.std.specs.Fmt.{decimal}
pub use Rattle.std.specs.List.{join_with_byte}
