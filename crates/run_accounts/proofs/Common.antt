-- The names of lower crates and of the specifications that these proofs use. Declares nothing.
pub use Rattle.hh_lang.specs.Form.{ProgramText}
pub use Rattle.hh_lang.specs.declared.program.Line.{Line}
pub use Rattle.hh_model.proofs.Carried.{next_name}
pub use Rattle.hh_model.specs.Calculations.{advanced_by, calculates}
pub use Rattle.hh_model.specs.Machine.{MachineValue}
pub use Rattle.hh_model.specs.Names.{refs_at}
pub use Rattle.hh_model.specs.Step.{asked, is_running, step, can_step, is_left, is_joined, sibling, fetched, is_waiting, parents}
pub use Rattle.hh_model.specs.declared.data.End.{End}
pub use Rattle.hh_model.specs.declared.data.MachineState.{MachineState}
pub use Rattle.hh_model.specs.declared.data.Name.{Name}
pub use Rattle.hh_model.specs.declared.data.Object.{Object}
pub use Rattle.hh_model.specs.declared.data.Task.{Task}
pub use Rattle.hh_model.specs.declared.data.TaskStatus.{TaskStatus}
pub use Rattle.hh_model.specs.declared.data.TaskStatus.TheVariants.{Running, Waiting, Ended, Joined}
pub use Rattle.ledger_heaps.proofs.Kept.{survivors_units, snapshot_units, fewer_chunks}
pub use Rattle.ledger_heaps.specs.Accounts.{AreOwned}
pub use Rattle.ledger_heaps.specs.Parts.{with_collected}
pub use Rattle.ledger_heaps.specs.declared.collection.Collected.{Collected}
pub use Rattle.next_steps.proofs.Calculating.{Calculation, found}
pub use Rattle.next_steps.specs.Own.{is_own, is_own_by, is_own_line}
pub use Rattle.plain_vec.proofs.Members.{got_same, got_other, In, got_front, got_within, contains_from_in, in_from_contains}
pub use Rattle.plain_vec.proofs.Places.{got_set}
pub use Rattle.plain_vec.specs.Options.{option_is}
pub use Rattle.run_accounts.specs.Accounts.{AccountsValue, StaysSteady, stood, used_after, went_on, CachesAgree, taken_after, ChildrenArePaired, Steady, after_stood, Forks, large_by, next_large, used_by, places_in}
pub use Rattle.run_accounts.specs.declared.ran.Stood.{Stood}
pub use Rattle.run_accounts.specs.declared.ran.Stood.TheVariants.{Not, Last}
pub use Rattle.run_ledger.proofs.Booked.{BookedLedger, put_length, total_same, units_additive}
pub use Rattle.run_ledger.proofs.Frames.{held_is, is_held}
pub use Rattle.run_ledger.proofs.Held.{placed_since}
pub use Rattle.run_ledger.proofs.Holders.{none_holding, placed_worker}
pub use Rattle.run_ledger.proofs.Journals.{none_unless, out_tells}
pub use Rattle.run_ledger.proofs.Laid.{collected_bound}
pub use Rattle.run_ledger.proofs.Machine.{task_step_machine, task_steps_more, heap_machine, stepped_machine}
pub use Rattle.run_ledger.proofs.Moves.{moves_each}
pub use Rattle.run_ledger.proofs.Sound.{SoundLedger}
pub use Rattle.run_ledger.proofs.Steps.{SoundAt, step_keeps, step_leaves, task_step_sound, steps_last, StepLeaves}
pub use Rattle.run_ledger.proofs.Stocks.{with_heap_any, StockedLedger, L}
pub use Rattle.run_ledger.proofs.Use.{same_use}
pub use Rattle.run_ledger.proofs.Weights.{collected_weight, weight, total, kept_weight, total_set, moves_total}
pub use Rattle.run_ledger.specs.Entries.{kind_refusal, after_kind, out_from, is_ready, with_chunk, chunk_units}
pub use Rattle.run_ledger.specs.Heaps.{heap_of, in_use, lacks_room, or_fresh, with_heap, with_allocation, is_small_size, chunk_words, collected, swept_heap, words_at, words_in, units_in, units_sum, small_in, begun_in, take_of, end_numbers, sweep_number, left_in, marked_in, fresh, heap_at, with_heap_at, held_in, roots_of, within, put_last, forked_heap, emptied, let_go, units, large_survivors, in_snapshot, without_empty, words_sum}
pub use Rattle.run_ledger.specs.Reachable.{holds_name, reached_by}
pub use Rattle.run_ledger.specs.Report.{held_not_running_from, held_not_running}
pub use Rattle.run_ledger.specs.Steps.{is_due, is_in_need, moved_on, moved_to, on_asked, settled, standing, task_step, task_steps, allocated_by, allocated_in, stepped_to, at_fork, at_join, join_heaps, is_private, is_private_by, is_private_line, is_open, works_alone}
pub use Rattle.run_ledger.specs.declared.data.Heap.{Heap}
pub use Rattle.run_ledger.specs.declared.data.Ledger.{Ledger}
pub use Rattle.run_ledger.specs.declared.data.RunEnd.TheVariants.{Pool}
pub use Rattle.run_trace.specs.Settings.{SettingsValue}
pub use Rattle.run_trace.specs.below.or_no_memory.{Reports}
pub use Rattle.run_trace.specs.declared.entry.Kind.{Kind}
pub use Rattle.run_trace.specs.declared.entry.Kind.TheVariants.{Took, Ran, Chunk, Begin, PutOff, Mark, More, Sweep, Fuel}
pub use Rattle.std.proofs.Common.{◌≡◌, ℕ, zero, suc, ◌+◌, ◌-◌, ◌<◌, ◌≤◌, ◌||◌, true, false, Option, Some, None, slice_get, nat_le, is_some, refl, ap, ap₂, sym, subst, ◌∙◌, arith, Bool, cond, List, [], ◌∷◌, ◌++◌, length, slice_set, nat_lt, inl, inr, ◌⊎◌, is_none, unwrap_or, ◌^◌, min, filter, sum_by, length-set, ◌&&◌, not, ◌==◌, map, rules, OnOk, drop}
pub use Rattle.std.proofs.lemmas.Bool.{false≢true, both_ways, cases_eq, eqb-true, leb-true, cond-true, not-false, ltb-false}
pub use Rattle.std.proofs.lemmas.List.Sums.{sum_by-append, sum_by-cons}
pub use Rattle.std.proofs.lemmas.Option.{same_Some, none-some}
pub use Rattle.std.proofs.lemmas.Result.{on_ok_weaker}
pub use Rattle.std.specs.List.{list_any, flat_map}
pub use Rattle.std.specs.Prelude.{IfErr}
