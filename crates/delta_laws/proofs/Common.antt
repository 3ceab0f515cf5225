-- The names of lower crates and of the specifications that these proofs use. Declares nothing.
pub use Rattle.delta_laws.specs.Holdings.{Marking, Holding, marking_with, holding, holdings, nothing_held, changed_in, changed_at, with_birth, put_birth, put_births, put_made, holding_or_none, with_children, without_objects, put_join, has_joined, without_marking, put_moves, put_delta, with_given, with_marked, put_news, held_after}
pub use Rattle.delta_laws.specs.Laws.{DeltasGiveHoldings, DeltasGiveObjects, DeltasGiveRoots, DeltasGiveTasks}
pub use Rattle.delta_laws.specs.Put.{Body, Seen, seen, body_of, with_field, frozen, put, put_all, put_deltas}
pub use Rattle.delta_laws.specs.Told.{stands_as, holds_told, names_held, told, told_by, stands}
pub use Rattle.hh_lang.specs.Form.{ProgramText, IsProgram, line_at}
pub use Rattle.hh_lang.specs.declared.instr.Instr.{Instr}
pub use Rattle.hh_lang.specs.declared.instr.Instr.TheVariants.{Set, Mov, Movr, Nil, Calc, Same, Jmp, Jz, Newm, Pack, Getr, Geti, Putr, Puti, Cntr, Cnti, Freeze, Cas, Call, Par, Ret, Out}
pub use Rattle.hh_lang.specs.declared.program.Line.{Line}
pub use Rattle.hh_model.proofs.Closed.{asked_at}
pub use Rattle.hh_model.proofs.Counts.{rows_from, runs_are_counted}
pub use Rattle.hh_model.proofs.Lists.{set_got}
pub use Rattle.hh_model.proofs.Next.{packs_are_few}
pub use Rattle.hh_model.proofs.Runs.{waiting, grown_length, grown_at, grown_left, grown_right, three_top, three_left, three_right, three_length, below, parr, grown_past, grown_other, three_other, wp}
pub use Rattle.hh_model.proofs.Steps.{step_cases, runs_is}
pub use Rattle.hh_model.proofs.Taken.{can_task, step_taken}
pub use Rattle.hh_model.specs.Counts.{Counted}
pub use Rattle.hh_model.specs.Effect.{Effect, Goes, effect, made, object_at, row_of, counts_in, place_in, same_name, int_in, ref_in, or_trap, with_ref, onward, Calls, Forks, Traps, Stops, put_object, with_object, read_effect, swap_effect, with_int, calculated}
pub use Rattle.hh_model.specs.Names.{next_name, words_asked, words_for, task_names}
pub use Rattle.hh_model.specs.Precedence.{precedes}
pub use Rattle.hh_model.specs.Step.{step, follow, setting, fetched, can_step, asked, asked_line, runs, is_running, is_left, owner_of, parent_of, child, strand, strand_of, edge, joined_task, resumed, join_of, ended_task, result_of, ended_by, start, returned_to, last_return, last_of, child_ended_by, result_at, or_same, sibling, run_from, frame_limit, depth_limit}
pub use Rattle.hh_model.specs.declared.data.End.TheVariants.{Done}
pub use Rattle.hh_model.specs.declared.data.Frame.{Frame}
pub use Rattle.hh_model.specs.declared.data.MachineState.{MachineState}
pub use Rattle.hh_model.specs.declared.data.Name.{Name}
pub use Rattle.hh_model.specs.declared.data.Object.{Object}
pub use Rattle.hh_model.specs.declared.data.Task.{Task}
pub use Rattle.hh_model.specs.declared.data.TaskStatus.{TaskStatus}
pub use Rattle.hh_model.specs.declared.data.TaskStatus.TheVariants.{Running, Waiting, Joined, Ended}
pub use Rattle.hh_model.specs.declared.data.Trap.{Trap}
pub use Rattle.hh_model.specs.declared.data.Trap.TheVariants.{Size, Range, Frozen, Div}
pub use Rattle.path_laws.proofs.Leaves.{rows_same, put_leaves}
pub use Rattle.path_laws.proofs.Objects.{put_here}
pub use Rattle.path_laws.proofs.Stored.{made_here}
pub use Rattle.plain_vec.proofs.Members.{got_same, got_within, got_other, got_past}
pub use Rattle.plain_vec.proofs.Options.{none_of}
pub use Rattle.plain_vec.proofs.Places.{got_some}
pub use Rattle.plain_vec.specs.Members.{In}
pub use Rattle.plain_vec.specs.Options.{option_is}
pub use Rattle.run_deltas.proofs.Machines.{after_run, machine_moves}
pub use Rattle.run_deltas.specs.Deeds.{deed, act_of, act_by, step_act_of, if_there, reference_in, number_in, number_place}
pub use Rattle.run_deltas.specs.Deltas.{delta, deltas_from, machine_after}
pub use Rattle.run_deltas.specs.News.{units_given, news_in, news_at, news_for, news}
pub use Rattle.run_deltas.specs.Roots.{with_root, with_roots, roots}
pub use Rattle.run_deltas.specs.Steps.{born, changed_by, with_act, changes, stepped}
pub use Rattle.run_deltas.specs.Tasks.{standing_for, now_of, joined_now, moved_by, moved, children, child_of, line_for, now_out, now_free}
pub use Rattle.run_deltas.specs.declared.data.Change.{Change}
pub use Rattle.run_deltas.specs.declared.data.Changes.{Changes}
pub use Rattle.run_deltas.specs.declared.data.Deed.{Deed}
pub use Rattle.run_deltas.specs.declared.data.Deed.TheVariants.{Allocates, Reads, Counts, Writes, Swaps, Freezes, Prints}
pub use Rattle.run_deltas.specs.declared.data.NewObject.{NewObject}
pub use Rattle.run_deltas.specs.declared.data.Standing.{Standing}
pub use Rattle.run_deltas.specs.declared.data.StepAct.{StepAct}
pub use Rattle.run_deltas.specs.declared.data.TaskNow.{TaskNow}
pub use Rattle.run_deltas.specs.declared.data.Value.{Value}
pub use Rattle.run_deltas.specs.declared.data.Value.TheVariants.{Reference, Number}
pub use Rattle.run_ledger.proofs.Booked.{wait_run}
pub use Rattle.run_ledger.proofs.Cuts.{journals_can_be_cut}
pub use Rattle.run_ledger.proofs.Frames.{held_is}
pub use Rattle.run_ledger.proofs.Holders.{heap_end, MannedLedger, moved_to_end, allocated_end, placed_worker, worker_of, step_manned, chunk_worker_by, tasks_are_out_once}
pub use Rattle.run_ledger.proofs.Journals.{none_where, none_unless, out_tells, wait_tells, entry_tells, legal_sound, collecting_is}
pub use Rattle.run_ledger.proofs.Machine.{stepped_machine, task_step_machine, machine_is_run}
pub use Rattle.run_ledger.proofs.Members.{same_from_is_name, is_name_itself}
pub use Rattle.run_ledger.proofs.Moves.{moves_each}
pub use Rattle.run_ledger.proofs.Sound.{SoundLedger, collecting}
pub use Rattle.run_ledger.proofs.Steps.{SoundAt, steps_last, task_steps_sound, running_at, can_tells, StepLeaves, step_leaves, step_keeps, steps_keep, heap_of_task, worker_at, allots}
pub use Rattle.run_ledger.proofs.Stocks.{with_heap_any}
pub use Rattle.run_ledger.proofs.Use.{chunks_are_used}
pub use Rattle.run_ledger.specs.Entries.{refusal, kind_refusal, after_kind, after, with_chunk, chunk_units, is_ready, is_out}
pub use Rattle.run_ledger.specs.Heaps.{chunk_words, units, is_small_size, object_words_of, begun_in, marked_in, left_in, heap_of, or_fresh, with_heap, with_heap_at, in_use, within, lacks_room, with_allocation, put_last, fresh, forked_heap, merged, emptied, let_go, collected, swept_heap}
pub use Rattle.run_ledger.specs.Journals.{after_all, ledger_of, is_legal, is_legal_from, tasks_of, tasks_in, opening}
pub use Rattle.run_ledger.specs.Reachable.{is_name, holds_name}
pub use Rattle.run_ledger.specs.Steps.{is_due, is_in_need, allocated_by, allocated_in, settled, moved_on, moved_to, at_join, join_heaps, stepped_to, task_step, task_steps, on_asked}
pub use Rattle.run_ledger.specs.declared.data.Heap.{Heap}
pub use Rattle.run_ledger.specs.declared.data.Ledger.{Ledger}
pub use Rattle.run_ledger.specs.declared.data.RunEnd.TheVariants.{Pool}
pub use Rattle.run_trace.specs.Entry.{EntryValue}
pub use Rattle.run_trace.specs.Settings.{SettingsValue, field_limit}
pub use Rattle.run_trace.specs.declared.entry.Kind.{Kind}
pub use Rattle.run_trace.specs.declared.entry.Kind.TheVariants.{Took, Ran, Chunk, Begin, End, PutOff, Mark, More, Sweep, Fuel}
pub use Rattle.std.proofs.Common.{◌≡◌, ◌<◌, ◌≤◌, ℕ, pos, zero, suc, ◌+◌, ◌-◌, ◌==◌, ◌⊎◌, Bool, true, false, cond, Option, Some, None, List, [], ◌∷◌, ◌++◌, length, map, slice_get, slice_set, replicate, take, nat_lt, inl, inr, refl, ap, ap₂, sym, subst, ◌∙◌, is_some, is_none, arith, eq-eqb, ne_eqb, append_assoc, ℤ, ◌||◌}
pub use Rattle.std.proofs.Math.Bool.{or_assoc}
pub use Rattle.std.proofs.lemmas.Bool.{cond-true, cond-false, false≢true, both_ways, and_parts, le-leb, leb-false, cases_eq, cases_lt}
pub use Rattle.std.proofs.lemmas.List.{length-set, length-take, length-replicate}
pub use Rattle.std.proofs.lemmas.Option.{slice_get-map, same_Some}
pub use Rattle.std.specs.Option.{option_flatten}
pub use Rattle.std.specs.Prelude.{min, option_map, unwrap_or}
