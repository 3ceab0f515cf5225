-- The names of lower crates and of the specifications that these proofs use. Declares nothing.
pub use Rattle.hh_lang.specs.Form.{ProgramText}
pub use Rattle.hh_lang.specs.Limits.{most_fields}
pub use Rattle.hh_lang.specs.declared.instr.Instr.{Instr}
pub use Rattle.hh_lang.specs.declared.instr.Instr.TheVariants.{Newm, Pack, Par}
pub use Rattle.hh_lang.specs.declared.program.Line.{Line}
pub use Rattle.hh_model.proofs.Carried.{next_name}
pub use Rattle.hh_model.proofs.Closed.{asked_at, waits_is}
pub use Rattle.hh_model.proofs.Counts.{runs_are_counted, step_limit}
pub use Rattle.hh_model.proofs.Next.{packs_are_few}
pub use Rattle.hh_model.proofs.Paths.{path_same}
pub use Rattle.hh_model.proofs.Runs.{running_tells, grown_at, grown_view_front, three_left, three_right, below, grown_other, three_top, three_other}
pub use Rattle.hh_model.proofs.Steps.{step_cases}
pub use Rattle.hh_model.specs.Counts.{Counted}
pub use Rattle.hh_model.specs.Effect.{counts_in, int_in, object_at, onward}
pub use Rattle.hh_model.specs.Names.{words_asked, words_for, refs_at, refs_of, registers, names_from, task_names}
pub use Rattle.hh_model.specs.Step.{is_running, is_waiting, asked_by, asked_line, fetched, asked, step, start, can_step, owner_of, child, ended_task, joined_task, parent_of, parents, result_of, resumed, waits, strand_of, runs}
pub use Rattle.hh_model.specs.Store.{IsStored}
pub use Rattle.hh_model.specs.Tree.{IsForkJoinState, waiting}
pub use Rattle.hh_model.specs.declared.data.Frame.{Frame}
pub use Rattle.hh_model.specs.declared.data.MachineState.{MachineState}
pub use Rattle.hh_model.specs.declared.data.Name.{Name}
pub use Rattle.hh_model.specs.declared.data.Object.{Object}
pub use Rattle.hh_model.specs.declared.data.Strand.{Strand}
pub use Rattle.hh_model.specs.declared.data.Task.{Task}
pub use Rattle.hh_model.specs.declared.data.TaskStatus.{TaskStatus}
pub use Rattle.hh_model.specs.declared.data.TaskStatus.TheVariants.{Waiting, Running, Ended, Joined}
pub use Rattle.journal_laws.specs.Accepted.{Allows, AcceptedIsAllowed, IsOutAt, WorkerHoldsTask, IsUnswept}
pub use Rattle.journal_laws.specs.Frozen.{BeganWith, ForkedWith, HasNone, SnapshotsAreHeld, SnapshotsAreWithin, SurvivorsAreWithin, begins, is_of_steps}
pub use Rattle.journal_laws.specs.PaceLaw.{GoesOnMarking, IsLastBy, IsNewest, IsPaceOf, IsPrevious, IsToMark, IsUnderWay, KeepsRules, KeepsThePace, NoEntryBy, PacedKeepsThePace, WaitsOn, fork_by, fork_marked, marked_forks, marked_task}
pub use Rattle.path_laws.proofs.Leaves.{fork_owner, rows_same, wait_task, waits_alone}
pub use Rattle.path_laws.specs.Leaves.{WaitsAlone}
pub use Rattle.plain_vec.proofs.Members.{In, in_from_contains, contains_from_in, got_same, got_other, got_within, in_append_cases, in_from_kept, got_front, in_append_right, flat_in, got_in}
pub use Rattle.plain_vec.proofs.Options.{none_is, none_of, some_none}
pub use Rattle.plain_vec.proofs.Places.{got_none}
pub use Rattle.plain_vec.specs.Options.{option_is}
pub use Rattle.run_ledger.proofs.Booked.{wait_run, total_same}
pub use Rattle.run_ledger.proofs.Bounds.{chunk_steps, heap_steps, task_steps_steps, ran_tells, task_step_steps}
pub use Rattle.run_ledger.proofs.Chunks.{sum_same}
pub use Rattle.run_ledger.proofs.Cuts.{after_cut, cut_legal}
pub use Rattle.run_ledger.proofs.Frames.{held_is, is_held, left_step, heap_view, heap_off}
pub use Rattle.run_ledger.proofs.Grown.{Grown, next_unstored}
pub use Rattle.run_ledger.proofs.Held.{collected_down, collected_up, swept_down, swept_up, chunk_up, placed_since}
pub use Rattle.run_ledger.proofs.Holders.{holding_none, worker_of, chunk_worker_by}
pub use Rattle.run_ledger.proofs.Journals.{out_tells, entry_tells, entry_sound, opening_sound, collecting_is, none_unless, out_runs, wait_tells, none_where, journal_keeps}
pub use Rattle.run_ledger.proofs.Machine.{machine_is_run, stepped_machine, heap_machine}
pub use Rattle.run_ledger.proofs.Members.{same_from_is_name, in_from_holds, holds_from_in}
pub use Rattle.run_ledger.proofs.Moves.{moves_each}
pub use Rattle.run_ledger.proofs.Reached.{once_by}
pub use Rattle.run_ledger.proofs.Sound.{SomeHeapHas, InHeaps, heap_names, SoundLedger, held_keeps, in_held, collecting}
pub use Rattle.run_ledger.proofs.Steps.{worker_at, SoundAt, heap_of_task, can_tells, task_step_sound, step_keeps, step_leaves, steps_keep, task_steps_sound, StepLeaves}
pub use Rattle.run_ledger.proofs.Stocks.{copies, copies_keeps, keeps_copies, hit, hit_itself, StockedLedger, with_heap_any, allocated_total, G, same_copies, task_step_stocked, kind_stocked, legal_stocked, opening_stocked, distinct, L}
pub use Rattle.run_ledger.proofs.Weights.{weight, total_set, kept_weight, total, Additive, moves_total, sum_flat, collected_weight, swept_weight, chunk_weight, weight_additive}
pub use Rattle.run_ledger.specs.Cuts.{FewerStepsAreLegal, CanBeGiven, OwedCanBeGiven, Paced, PacedIsMeant, PaceGoesOn}
pub use Rattle.run_ledger.specs.Entries.{unless_wrong_number, out_from, is_fuel, is_out, is_pool_enough, is_ready, kind_refusal, long_at, on_due, on_running, on_waiting, refused_holding, refused_if, refused_unless, after_kind, after, chunk_units, refusal, with_chunk, on_marking}
pub use Rattle.run_ledger.specs.Heaps.{end_numbers, heap_of, in_use, left_in, take_of, words_in, held_in, held, heap_at, or_fresh, with_heap, with_heap_at, is_small_size, collected, swept_heap, frames_of, is_proper_ancestor, within, chunk_words, forked_heap, fresh, roots_of, object_words_of, words_at, words_sum, sweep_number, with_allocation}
pub use Rattle.run_ledger.specs.Journals.{opening, after_all, ledger_of, tasks_in, tasks_of, is_legal_from, is_legal}
pub use Rattle.run_ledger.specs.Laws.{Drops, IsDropped, HeldIsUndropped, WaitersAreFree, RunsOrWaits}
pub use Rattle.run_ledger.specs.Pace.{waits_since, waits_on, is_unmarked, is_to_mark, is_under_way, more_of, owed_to_marks, owed_after, idle, pace_of, pace_opening, fork_of, pace_noted, pace_after, pace_after_all, pace_at_end, gives, is_mark_of, is_more_of, is_sweep_of, marked_at_once, or_idle, owed, previous_by, is_paced_from}
pub use Rattle.run_ledger.specs.Reachable.{is_name, holds_name, reached, reached_by}
pub use Rattle.run_ledger.specs.Report.{held_not_running_from, tally, lost, freed_by_end, freed_by_sweep}
pub use Rattle.run_ledger.specs.Space.{ProgramsAskFew, JournalsAreCounted, AsksAtMost, CountsFew, SinceIsBounded, store_words, WordsAreAccounted}
pub use Rattle.run_ledger.specs.Steps.{is_due, is_in_need, most_steps, standing, allocated_by, allocated_in, stepped_to, task_step, task_steps, on_asked, is_private, at_fork, moved_on, moved_to, settled}
pub use Rattle.run_ledger.specs.declared.data.Heap.{Heap}
pub use Rattle.run_ledger.specs.declared.data.Ledger.{Ledger}
pub use Rattle.run_ledger.specs.declared.data.Previous.{Previous}
pub use Rattle.run_ledger.specs.declared.data.Previous.TheVariants.{Other, Forked}
pub use Rattle.run_ledger.specs.declared.data.Refused.{Refused}
pub use Rattle.run_ledger.specs.declared.data.Refused.TheVariants.{Over, Spent, NoWorker, NotOut, Collecting, Long}
pub use Rattle.run_ledger.specs.declared.data.RunEnd.TheVariants.{Pool}
pub use Rattle.run_ledger.specs.declared.data.WorkerPace.{WorkerPace}
pub use Rattle.run_ledger.specs.below.run_trace.{EntryValue, SettingsValue, field_limit, Kind, Took, Ran, Chunk, Begin, End, PutOff, Mark, More, Sweep, Fuel, Version, One, Two}
pub use Rattle.std.proofs.Common.{◌≡◌, ℕ, zero, suc, ◌+◌, ◌<◌, ◌≤◌, ◌==◌, ◌&&◌, not, min, Bool, true, false, cond, Option, Some, None, List, [], ◌∷◌, slice_get, nat_le, nat_lt, ◌⊎◌, inl, inr, refl, ap, sym, ◌∙◌, is_none, is_some, arith, eqb-true, eq-eqb, ne_eqb, ℤ, pos, negsuc, subst, length, length-append, slice_set, Contains, ◌||◌, ◌++◌, filter, ap₂, sum_by, append_assoc, append-nil, replicate, ◌*◌, ◌-◌}
pub use Rattle.std.proofs.Math.Bool.{and-false}
pub use Rattle.std.proofs.Math.Path.{fun_ext}
pub use Rattle.std.proofs.lemmas.Bool.{false≢true, and_parts, and_from, eqb-false, leb-true, leb-false, le-leb, lt-leb, ltb-true, lt-ltb, both_ways, cases_eq, cond-true, not-true, or_cases, or_left, or_right}
pub use Rattle.std.proofs.lemmas.List.{length-replicate, length-set}
pub use Rattle.std.proofs.lemmas.List.Sums.{sum_by-cons}
pub use Rattle.std.proofs.lemmas.Option.{same_Some}
pub use Rattle.std.specs.List.{flat_map}
