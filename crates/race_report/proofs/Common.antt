-- The names of lower crates and of the specifications that these proofs use. Declares nothing.
pub use Rattle.indexmap.specs.IndexSet.{insert_key}
pub use Rattle.path_laws.proofs.FreeReads.{run_disentangled}
pub use Rattle.path_laws.proofs.Frozen.{frozen_reads_go}
pub use Rattle.path_laws.proofs.Objects.{object_later}
pub use Rattle.path_laws.proofs.Stored.{names_are_stored}
pub use Rattle.path_laws.specs.ReadLaws.{Holds, PrecedesTask, ReadsFreely}
pub use Rattle.race_report.specs.Accesses.{accesses, with_some, access, access_by, next_access, accesses_from, line_access, number_field, ref_field, swap_access, task_access, unless_trap, field_at, object_references}
pub use Rattle.race_report.specs.Few.{FieldsAreIndexable}
pub use Rattle.race_report.specs.LabelLaw.{TaskRuns, LabelsTellPrecedence}
pub use Rattle.race_report.specs.Labels.{label_precedes, allows, bound_allows, joined_bound, under, bound, label_by, label_in, label_of}
pub use Rattle.race_report.specs.Races.{IsPair, RaceAt}
pub use Rattle.race_report.specs.Report.{IsReport, race_key}
pub use Rattle.race_report.specs.Scan.{KeepsSame}
pub use Rattle.race_report.specs.Sights.{looked, line_said, looked_from, looked_of, plain, print_field, said_by, swap_if, swap_of, swaps_of, task_said}
pub use Rattle.race_report.specs.StopLaw.{HasNoRace, RacelessIsDisentangled, RacelessJournalsAreDisentangled, LastReadRaces, StoppedReadsRace}
pub use Rattle.race_report.specs.Text.{pair_line}
pub use Rattle.race_report.specs.Watch.{clashes, first_clash, with_first, with_access, bound_for, bound_with, clash, Key, found_by, watched_from, watched_with, key_of, nothing_yet, watch_or_none, race_between, same_key, watch_with, key_cmp, kind_key, races_in, seen_of, seen_from, labelled}
pub use Rattle.race_report.specs.Ways.{Way, way_of, same_way, ways_of, has_alike}
pub use Rattle.race_report.specs.declared.data.Bound.{Bound}
pub use Rattle.race_report.specs.declared.data.Field.{Field}
pub use Rattle.race_report.specs.declared.data.FieldAccess.{FieldAccess}
pub use Rattle.race_report.specs.declared.data.Open.{Open}
pub use Rattle.race_report.specs.declared.data.Race.{Race}
pub use Rattle.race_report.specs.declared.data.Seen.{Seen}
pub use Rattle.race_report.specs.declared.data.Sight.{Sight}
pub use Rattle.race_report.specs.declared.data.Sight.TheVariants.{Fields, Swaps}
pub use Rattle.race_report.specs.declared.data.Watch.{Watch}
pub use Rattle.race_report.specs.declared.data.Watch.TheVariants.{Found}
pub use Rattle.run_journal.proofs.below.hh_model.{Known, Tree, live_up, not_above, owner_not_joined, AreLow, path_child, path_le, path_above, path_itself, path_through, owner_le, owner_same, owner_joins, more_joins, same_from_test, more_other, waiting, joins_of, joins_in, running_tells, grown_length, grown_view, grown_view_front, three_top, three_left, three_right, three_other, three_view, three_length, parl, parr, sib, below, drest, IsForkJoinState, step_is_fork_join_state, run_is_fork_join_state, start_is_fork_join_state, step_cases, owner_here, can_runs, at_in, run_push, ended_stays, step_idle, seen, no_objects, in_registers, names_run, runs_is, SetsRef, SetsInt, Freezes, WritesField, Change, empty_rows, Alters, put_cases, reached_sound}
pub use Rattle.run_journal.proofs.below.journal_laws.{all_steps}
pub use Rattle.run_journal.proofs.below.plain_vec.{In, in_append_left, in_append_right, in_append_cases, got_front, got_within, in_from_kept, in_kept, got_in, got_last, same_view, in_from_contains, contains_from_in, got_map, in_got, map_got, and_not_parts, got_cases}
pub use Rattle.run_journal.proofs.below.run_ledger.{heap_machine, machine_is_run, allocated_end, heap_end, moved_on_end, heap_steps, steps_are_bounded, first_refused_is_first}
pub use Rattle.run_journal.specs.below.hh_lang.{Par, Line, ProgramText, Instr, Set, Mov, Movr, Nil, Calc, Same, Jmp, Jz, Newm, Pack, Getr, Geti, Putr, Puti, Cntr, Cnti, Freeze, Cas, Call, Ret, Out}
pub use Rattle.run_journal.specs.below.hh_model.{Strand, MachineState, MachineValue, IsOfRun, SizesIn, SizesAreBounded, Edge, precedes, through, owner_in, path_in, strand, sibling, Name, Waiting, Task, onward, task_names, same_strand, runs, waits, is_over, is_running, is_joined, is_waiting, parent_of, parents, joined, strand_of, edge, is_left, child, joined_task, resumed, join_of, ended_by, ended_task, result_of, fetched, step, run, run_from, start, path_by, End, Entangled, asked, can_step, goes_on, Precedes, Object, Frame, Effect, Goes, Prints, Calls, Forks, Returns, Traps, Stops, effect, ref_in, setting, object_at, IsEdgeWalk, NamesAreStoredIn, follow, or_same, stepped, Done, Trapped, Trap, Range, Frozen, Div, Size, Depth, StepContext, put_object, or_trap, with_object, read_effect, int_in, with_int, same_name, calculated, counts_in, place_in, owner_of, returned_to, last_return, child_ended_by, last_of, result_at, frame_limit, depth_limit, with_task, entry_frame, row_of, IsWriteTo}
pub use Rattle.run_journal.specs.below.run_ledger.{Heap, Ledger, Machine, Pool, in_use, with_heap, allocated_in, moved_to, settled, stepped_to, task_step, task_steps, after, after_kind, chunk_units, with_chunk, after_all, end_of, machine_of, opening, tasks_of, tasks_in, first_refused, is_legal, RunEnd, RefusedAt, or_short, refused_as_run}
pub use Rattle.run_journal.specs.below.run_trace.{Kind, Took, Ran, Chunk, Begin, PutOff, Mark, More, Sweep, Fuel, EntryValue, SettingsValue, field_limit, AreSettings}
pub use Rattle.std.proofs.Common.{◌≡◌, ℕ, zero, suc, ◌<◌, Bool, true, false, cond, not, ◌==◌, ◌||◌, ◌&&◌, Some, None, List, [], ◌∷◌, ◌++◌, length, slice_get, filter, ◌⊎◌, inl, inr, refl, ap, sym, subst, ◌∙◌, append_assoc, append-nil, eqb-true, ◌≤◌, nat_lt, arith, eq-eqb, ne_eqb, ◌+◌, drop, get_or, Option, take, is_some, ◌^◌, max, ℤ, slice_set, length-set, map, Contains, ap₂, replicate, length-append, pos, ◌-◌, negsuc, vec_items}
pub use Rattle.std.proofs.Math.Bool.{and-false, and-true, not-not}
pub use Rattle.std.proofs.Math.Path.{fun_ext}
pub use Rattle.std.proofs.lemmas.Bool.{or_cases, both_ways, and_parts, cases_lt, cases_eq, or_right, false_from_ne_true, or_left, false≢true}
pub use Rattle.std.proofs.lemmas.Cmp.{tied_itself}
pub use Rattle.std.proofs.lemmas.List.{drop_more, drop_all, take_all, take_more, take-append-drop}
pub use Rattle.std.proofs.lemmas.Map.Entries.{btree_map_get_place, place_from_lookup}
pub use Rattle.std.proofs.lemmas.Map.Keys.{Less-from_sorted}
pub use Rattle.std.proofs.lemmas.Map.Lookups.{exact_pairs, exact_unsigned}
pub use Rattle.std.proofs.lemmas.Option.{same_Some, get_or_from_slice_get}
pub use Rattle.std.proofs.lemmas.Result.{IfOk-weaker}
pub use Rattle.std.specs.BTreeMap.{BTreeMap, values}
pub use Rattle.std.specs.Bool.{beq}
pub use Rattle.std.specs.Cmp.{IsTotalOrder, then_total, on_total, nat_cmp_total}
pub use Rattle.std.specs.List.{flat_map}
pub use Rattle.std.specs.Option.{option_flatten}
pub use Rattle.std.specs.Ordering.{is_eq, nat_cmp, ordering_then}
pub use Rattle.std.specs.Prelude.{option_map, option_copied}
pub use Rattle.std.specs.declared.cmp.Ordering.{Ordering}
pub use Rattle.std.specs.declared.cmp.Ordering.TheVariants.{Less, Equal, Greater}
