-- The names of lower crates and of the specifications that these proofs use. Declares nothing.
pub use Rattle.chunk_sizes.proofs.Filled.{Filled, filled_more, filled_next}
pub use Rattle.path_laws.specs.below.hh_lang.{ProgramText, line_at, Instr, Set, Mov, Movr, Nil, Calc, Same, Jmp, Jz, Newm, Pack, Getr, Geti, Putr, Puti, Cntr, Cnti, Freeze, Cas, Call, Par, Ret, Out, Line}
pub use Rattle.path_laws.proofs.below.hh_model.{next_name, named_from_in, owner_here, asked_at, Closed, closed_step, grown_cases, step_limit, run_on, Counted, counted_step, start_counted, IsForkJoinState, empty_rows, start_is_fork_join_state, IsForkJoinStateIn, step_is_fork_join_state, packs_are_few, owner_le, owner_same, path_same, owner_joins, waiting, grown_other, three_other, wp, below, running_tells, grown_length, grown_view, grown_view_front, grown_at, wrest_fork, three_length, three_top, three_left, three_right, three_view, parl, parr, dp, drest, step_cases, runs_is, run_names, register_cases, put_cases, made_cases, in_row, step_taken, can_task, can_runs, step_none, can_made, not_above, owner_not_joined}
pub use Rattle.path_laws.specs.below.hh_model.{onward, Effect, StepContext, effect, made, object_at, counts_in, int_in, or_trap, Goes, Prints, Calls, Forks, Returns, Traps, Stops, row_of, put_object, ref_in, with_object, read_effect, calculated, place_in, same_name, words_asked, words_for, refs_at, registers, task_names, names_of_references, names_from, precedes, runs, is_running, child, joined_task, resumed, ended_task, result_of, step, can_step, asked, asked_by, asked_line, fetched, is_left, setting, follow, called, returned, returned_to, last_return, child_ended_by, last_of, result_at, sibling, or_same, join_of, ended_by, frame_limit, depth_limit, is_waiting, is_joined, parents, joined, owner_of, is_on_path, root, start, stepped, run_from, waits, is_over, parent_of, owner_in, goes_on, strand, strand_of, edge, IsStored, Edge, Trapped, Done, Frame, MachineState, Name, Object, Task, TaskStatus, Waiting, Running, Ended, Joined, Trap, Size, Range, Frozen, Div, Depth}
pub use Rattle.path_laws.proofs.Disentangled.{start_disentangled, Disentangled, disentangled_step}
pub use Rattle.path_laws.proofs.Leaves.{waiting_stops, leaves_owner, same_owner}
pub use Rattle.path_laws.proofs.Objects.{object_later}
pub use Rattle.path_laws.proofs.Stored.{made_here}
pub use Rattle.path_laws.specs.Leaves.{LeavesOwner}
pub use Rattle.plain_vec.proofs.Members.{In, got_same, got_other, got_within, in_append_left, in_append_right, in_append_cases, in_from_contains, contains_from_in, in_kept, in_from_kept, any_from_in, in_from_any, got_cases, got_in, in_flat, flat_in, got_front, got_past, same_view}
pub use Rattle.plain_vec.proofs.Options.{none_some, none_is, none_of}
pub use Rattle.plain_vec.proofs.Places.{got_some}
pub use Rattle.plain_vec.specs.Members.{is_empty}
pub use Rattle.plain_vec.specs.Options.{option_is}
pub use Rattle.run_ledger.specs.Cuts.{JournalsCanBeCut, FirstRefusedIsFirst}
pub use Rattle.run_ledger.specs.Entries.{after_kind, after, chunk_units, refusal, long_at, kind_refusal, is_out, is_ready, with_chunk, out_from, refused_holding, refused_unless, refused_if, on_running, on_waiting, is_fuel, is_pool_enough, unless_wrong_number}
pub use Rattle.run_ledger.specs.Heaps.{units, is_small_size, object_words_of, words_at, small_in, held_in, begun_in, units_in, fresh, heap_of, or_fresh, with_heap_at, in_use, with_allocation, put_last, lacks_room, take_of, chunk_words, with_heap, heap_at, within, let_go, emptied, forked_heap, words_sum, units_sum, words_in, lay, laid_onto, room_behind, without_empty, is_last_empty, in_snapshot, name_le, insert_name, by_birth, small_survivors, collected, swept_heap, merged, held, frames_of, roots_of, is_proper_ancestor, end_numbers, sweep_number, left_in}
pub use Rattle.run_ledger.specs.Journals.{after_all, opening, is_legal_from, ledger_of, is_legal, refused_or, first_refused_from, tasks_in, tasks_of}
pub use Rattle.run_ledger.specs.Laws.{AreByBirth, CollectionsKeepJust, EntriesLeaveOthers, MachineGoesOn, TasksAreOutOnce, IsNamedByTask, Refers, KeepsReachable, NothingReachableIsFreed, EntriesMoveMachine, MachineIsRun, ReachedIsWalks, StepsRunOn, NamesAreHeldOnce}
pub use Rattle.run_ledger.specs.Reachable.{holds_name, is_name, once_more, reached_by, reached, StartsWithin, LeadsWithin, IsReachedWithin}
pub use Rattle.run_ledger.specs.Report.{peak_from}
pub use Rattle.run_ledger.specs.Space.{last_words, StepsAreBounded, store_words, EachHasName, LeafCollectionsAreBounded, SweptWithin, SweepsAreBounded, UseIsBounded, FitsInChunks, HeapsFit}
pub use Rattle.run_ledger.specs.Steps.{allocated_by, allocated_in, stepped_to, task_step, task_steps, is_due, is_in_need, is_private, standing, join_heaps, moved_on, moved_to, settled, on_asked, most_steps, at_join}
pub use Rattle.run_ledger.specs.Use.{ChunkGoes, UseGoes, EntriesUse, ChunksAreUsed}
pub use Rattle.run_ledger.specs.declared.data.Heap.{Heap}
pub use Rattle.run_ledger.specs.declared.data.Ledger.{Ledger}
pub use Rattle.run_ledger.specs.declared.data.Refused.{Refused}
pub use Rattle.run_ledger.specs.declared.data.RefusedAt.{RefusedAt}
pub use Rattle.run_ledger.specs.declared.data.RunEnd.{RunEnd}
pub use Rattle.run_ledger.specs.declared.data.RunEnd.TheVariants.{Pool}
pub use Rattle.run_trace.specs.Entry.{EntryValue}
pub use Rattle.run_trace.specs.Settings.{SettingsValue, field_limit}
pub use Rattle.run_trace.specs.declared.entry.Kind.{Kind}
pub use Rattle.run_trace.specs.declared.entry.Kind.TheVariants.{Took, Ran, Chunk, Begin, End, PutOff, Mark, More, Sweep, Fuel}
pub use Rattle.std.proofs.Common.{◌≡◌, ℕ, zero, suc, ◌+◌, ◌-◌, ◌*◌, ◌<◌, ◌≤◌, ◌==◌, ◌||◌, not, max, Bool, true, false, cond, Option, Some, None, List, [], ◌∷◌, ◌++◌, length, slice_get, slice_set, sum_by, nat_lt, inl, inr, refl, ap, ap₂, sym, subst, ◌∙◌, arith, is_some, length-append, ◌&&◌, min, nat_le, is_none, ◌⊎◌, map, filter, eq-eqb, pos, replicate, ℤ, take, length-set, append_assoc, append-nil, eqb, ne_eqb, unwrap_or}
pub use Rattle.std.proofs.Math.Path.{fun_ext}
pub use Rattle.std.proofs.lemmas.Bool.{false≢true, both_ways, cases_eq, ltb-false, eqb-true, cases_lt, and_parts, leb-true, leb-false, or_cases, or_left, or_right, and_from, ltb-true, lt-ltb, le-leb, cond-false, cond-true, not-false, not-true}
pub use Rattle.std.proofs.lemmas.List.{length-replicate, length-take, length-map}
pub use Rattle.std.proofs.lemmas.List.Concat.{flat_map-append}
pub use Rattle.std.proofs.lemmas.List.Sums.{sum_by-append, sum_by-cons}
pub use Rattle.std.proofs.lemmas.Option.{same_Some}
pub use Rattle.std.specs.List.{flat_map, list_any, AllByRecursion}
pub use Rattle.std.specs.Option.{option_flatten}
pub use Rattle.walk_laws.proofs.Reached.{reached_within, reached_start, reached_more}
