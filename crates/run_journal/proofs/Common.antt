-- The names of lower crates and of the specifications that these proofs use. Declares nothing.
pub use Rattle.hh_lang.specs.Form.{ProgramText}
pub use Rattle.hh_model.proofs.Carried.{next_name}
pub use Rattle.hh_model.specs.Step.{step, can_step, asked}
pub use Rattle.hh_model.specs.declared.data.MachineState.{MachineState}
pub use Rattle.hh_model.specs.declared.data.Name.{Name}
pub use Rattle.journal_laws.proofs.KeptNames.{kept_least, stored_most}
pub use Rattle.journal_laws.proofs.Since.{since_additive, since_in}
pub use Rattle.plain_vec.proofs.Members.{contains_from_in, in_from_contains}
pub use Rattle.run_accounts.proofs.Holds.{kind_tells}
pub use Rattle.run_accounts.proofs.Snaps.{one_each, Snaps, snaps_set, snaps_allocated, snaps_settled, sound_paired}
pub use Rattle.run_accounts.proofs.Stepped.{small_enough}
pub use Rattle.run_accounts.proofs.Uses.{one_of, step_used}
pub use Rattle.run_accounts.specs.Accounts.{AccountsValue, CachesAgree, Steady, StaysSteady, went_on, taken_after}
pub use Rattle.run_accounts.specs.Held.{IsCountable}
pub use Rattle.run_journal.specs.BookValue.{IsLegalLedger, IsOpened, BookValue}
pub use Rattle.run_ledger.proofs.Booked.{BookedLedger, task_steps_booked}
pub use Rattle.run_ledger.proofs.Bounds.{asked_bounds, stands_by, ran_tells, task_steps_steps, steps_are_bounded}
pub use Rattle.run_ledger.proofs.Chunks.{heap_words}
pub use Rattle.run_ledger.proofs.Cuts.{after_cut, joined_legal, cut_legal}
pub use Rattle.run_ledger.proofs.Held.{placed_since}
pub use Rattle.run_ledger.proofs.Journals.{none_where, none_unless, entry_tells, legal_sound, out_tells}
pub use Rattle.run_ledger.proofs.Machine.{stepped_machine}
pub use Rattle.run_ledger.proofs.Moves.{Moves}
pub use Rattle.run_ledger.proofs.Sound.{SoundLedger, heap_names, collecting}
pub use Rattle.run_ledger.proofs.Space.{heaps_fit, use_is_bounded, legal_booked}
pub use Rattle.run_ledger.proofs.Steps.{SoundAt, heap_of_task, can_tells, task_step_sound}
pub use Rattle.run_ledger.proofs.Stocks.{names_are_held_once, StockedLedger, G, L, with_heap_any, same_weight, chunk_lighter, allocated_total, task_step_stocked, legal_stocked}
pub use Rattle.run_ledger.proofs.Weights.{weight, weight_additive, total, total_set, moves_total, collected_weight, swept_weight}
pub use Rattle.run_ledger.specs.Entries.{refusal, after, is_fuel, after_kind, chunk_units, with_chunk}
pub use Rattle.run_ledger.specs.Heaps.{heap_of, or_fresh, held, held_in, words_at, words_sum, in_use, heap_at, fresh, words_in, units_in, is_small_size, lacks_room, with_allocation, with_heap, with_heap_at, let_go, forked_heap, merged, emptied, collected, swept_heap}
pub use Rattle.run_ledger.specs.Journals.{ledger_of, is_legal, opening, after_all, first_refused_from, refused_or, is_legal_from}
pub use Rattle.run_ledger.specs.Laws.{HoldsOnce}
pub use Rattle.run_ledger.specs.Report.{held_not_running}
pub use Rattle.run_ledger.specs.Space.{HeapsFitChunks, store_words}
pub use Rattle.run_ledger.specs.Steps.{allocated_in, allocated_by, stepped_to, task_step, task_steps, is_due, is_in_need, is_private, standing, on_asked}
pub use Rattle.run_ledger.specs.declared.data.Heap.{Heap}
pub use Rattle.run_ledger.specs.declared.data.Ledger.{Ledger}
pub use Rattle.run_ledger.specs.declared.data.RunEnd.TheVariants.{Pool}
pub use Rattle.run_trace.specs.Entry.{EntryValue, IsKind}
pub use Rattle.run_trace.specs.Settings.{SettingsValue, AreSettings}
pub use Rattle.run_trace.specs.below.or_no_memory.{Reports}
pub use Rattle.run_trace.specs.declared.entry.Kind.{Kind}
pub use Rattle.run_trace.specs.declared.entry.Kind.TheVariants.{Took, Ran, Chunk, Begin, End, PutOff, Mark, More, Sweep, Fuel}
pub use Rattle.std.proofs.Common.{◌≡◌, ℕ, zero, suc, ◌*◌, ◌≤◌, true, List, [], ◌∷◌, slice_get, length, sym, subst, arith, length-append, ◌<◌, ◌&&◌, not, Bool, false, Option, Some, None, ◌++◌, nat_lt, nat_le, is_none, is_some, refl, ap, ◌∙◌, length-set, ◌+◌, drop, get_or, ap₂, ◌^◌, ◌||◌, cond, slice_set, inl, inr}
pub use Rattle.std.proofs.Math.Seq.{drop-cons}
pub use Rattle.std.proofs.lemmas.Bool.{ltb-true, false≢true, and_parts}
pub use Rattle.std.proofs.lemmas.List.Sums.{sum_by-append}
pub use Rattle.std.specs.List.{flat_map}
