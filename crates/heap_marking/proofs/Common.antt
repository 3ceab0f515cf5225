-- The names of lower crates and of the specifications that these proofs use. Declares nothing.
pub use Rattle.core_invariant.proofs.BeforeTheEnd.{node_now, stands_now}
pub use Rattle.core_invariant.proofs.CausesTold.{on_is, refused_is}
pub use Rattle.core_invariant.proofs.CellsRead.{object_seen, seen_object, fresh_off}
pub use Rattle.core_invariant.proofs.EntryMade.{entry_on, ChangesRest, IsWell, changed_form, entered_world, part_fits, rest_off, rest_then, free_at_rest}
pub use Rattle.core_invariant.proofs.FieldsLed.{belongings_chunks}
pub use Rattle.core_invariant.proofs.FieldsNoted.{noted_sources, fresh_by, owned_before}
pub use Rattle.core_invariant.proofs.FirstCauses.{found_first, nothing_first}
pub use Rattle.core_invariant.proofs.HeapCounts.{counted_from}
pub use Rattle.core_invariant.proofs.HeapForms.{places_form, reserved_none}
pub use Rattle.core_invariant.proofs.HeapLaidOut.{inside_from, laid_from, same_chunk, place_there}
pub use Rattle.core_invariant.proofs.HeapWords.{words_are, words_same}
pub use Rattle.core_invariant.proofs.JournalGoesOn.{accounts_then}
pub use Rattle.core_invariant.proofs.NothingMoves.{MovesNothing, quiet_others, quiet_world}
pub use Rattle.core_invariant.proofs.ObjectCounts.{objects_counted}
pub use Rattle.core_invariant.proofs.PlacedForm.{Formed}
pub use Rattle.core_invariant.proofs.RootsByAccounts.{read_at_rest}
pub use Rattle.core_invariant.proofs.RootsHeld.{chunk_in, into_tells, into_there}
pub use Rattle.core_invariant.proofs.SmallWords.{SameWords}
pub use Rattle.core_invariant.proofs.TaskTaken.{parent_is, some_flat, HasCalls, has_calls, some_calls}
pub use Rattle.core_invariant.proofs.UnitsMeasured.{all_kept, given_keeps, part_kept}
pub use Rattle.core_invariant.proofs.below.hh_model.{start_is_fork_join_state, step_is_fork_join_state, below, grown_left, grown_other, grown_past, grown_right, grown_view_front, parl, parr, running_tells, sib, three_left, three_other, three_right, three_top, step_cases, waits_is}
pub use Rattle.core_invariant.proofs.below.ledger_step_laws.{legal_idle, heap_then, with_at, with_off}
pub use Rattle.core_invariant.proofs.below.mark_sweep_gc.{size_swept, has_in, in_has, all_marked_is_done, found_few}
pub use Rattle.core_invariant.proofs.below.object_layout.{distinct_take, sifted_are_filtered, chunk_there}
pub use Rattle.core_invariant.proofs.below.path_laws.{wait_there, waiting_stops, wait_task}
pub use Rattle.core_invariant.proofs.below.plain_vec.{got_other, got_same, none_is, all_from, in_got, in_map, contains_from_in, in_append_cases, in_append_left, in_append_right, in_from_contains, in_take, got_within, none_of, got_set, in_flat, got_back, got_front, and_not_parts, view_step, none_some, in_from_kept, in_kept, map_in, read_in, same_truth, got_past}
pub use Rattle.core_invariant.proofs.below.refinement.{name_at, belongings_kept, lies_in, from_flat, frame_name, in_objects}
pub use Rattle.core_invariant.proofs.below.refinement_laws.{snapshot_now, all_marked, few_marked, marks_are_all, sweeps_stand_for, sweeps_leave}
pub use Rattle.core_invariant.proofs.below.run_ledger.{entry_tells, out_tells, stepped_machine, can_tells, step_leaves, task_step_sound, with_heap_any, wait_run, machine_is_run, legal_sound, heap_there, heap_machine, held_is, holds_from_in, in_from_holds, chunks_are_used, heaps_fit, use_is_bounded}
pub use Rattle.core_invariant.proofs.below.walk_laws.{reached_more, reached_start, reached_within}
pub use Rattle.core_invariant.specs.Causes.{or_else, first_cause}
pub use Rattle.core_invariant.specs.Entered.{Enters, refused}
pub use Rattle.core_invariant.specs.WorkerPartFits.{EachPartStillFits, WorkerPartFits, part_of}
pub use Rattle.core_invariant.specs.Measured.{KeepsUnits, AreMeasured}
pub use Rattle.core_invariant.specs.Objects.{OffsetsAreSmall, chunk_of, chunks_of}
pub use Rattle.core_invariant.specs.Roots.{heaps_of, sources_of}
pub use Rattle.core_invariant.specs.SharedValue.{SharedValue, accounts, marks_at, noted_in, tree_counts_of, value_of, belongings_in, rest_at, frames_down, belongings_by, belongings_of}
pub use Rattle.core_invariant.specs.Stands.{IsSharedValue, HeapForm}
pub use Rattle.core_invariant.specs.below.chunk_list.{Level}
pub use Rattle.core_invariant.specs.below.chunk_pool.{PoolValue, slot_at, Slot, owner_of, slot_units}
pub use Rattle.core_invariant.specs.below.copying_gc.{frame_references, references_in}
pub use Rattle.core_invariant.specs.below.heap_tree.{TaskNode, state_of, parent_in}
pub use Rattle.core_invariant.specs.below.hh_lang.{ProgramText}
pub use Rattle.core_invariant.specs.below.hh_model.{Task, MachineState, asked, can_step, is_waiting, step, waits, TaskStatus, Running, Waiting, Ended, Joined, is_joined, is_over, joined, parents, waiting, Name, row_of, Strand, strand_of, Edge, onward, child, ended_task, is_left, is_running, joined_task, parent_of, result_of, resumed, run, run_from, sibling, start, IsForkJoinState, TreeOf, runs}
pub use Rattle.core_invariant.specs.below.leaf_heap.{saturating_words, LeafHeapValue, IsFresh, room_of, with_places, unit_count, units, CellsFitInChunks, IsCurrent, IsSettled, IsTidy, room_at, counted32}
pub use Rattle.core_invariant.specs.below.ledger_step_laws.{Rests, own}
pub use Rattle.core_invariant.specs.below.mark_sweep_gc.{IsMarking, IsOf, MarkingValue, Fork, IsInSnapshot, MarkStarts, marked_of, IsAllMarked, IsSince, AreGiven, gone_of, goes, swept, units_in_slots, has_address, has_object, is_object, swept_cell, swept_cells, swept_chunk, stays, chunk_number_at, place_at, IsDone}
pub use Rattle.core_invariant.specs.below.object_layout.{Addr, Born, Hole, IsBorn, Moved, HaveDistinctNumbers, cell_of, has_chunk, chunk_position, ChunkValue, HeapIsClosed, HasObjectAt, IsSoundReference, Located, located, object_count, RefersTo, held_words, Cell, moved_to, size_of, located_by, objects_from, chunk_at, no_chunk, place_in}
pub use Rattle.core_invariant.specs.below.plain_vec.{option_is, ReservedVecValue, is_empty}
pub use Rattle.core_invariant.specs.below.refinement.{StandsFor, state_by, In, Memory, objects, objects_of_chunks, LiesWithOwner, MemoryStands, object_name, HoldsAt, IsRememberedRoot, LeadsAt, CanGoOnMarking, kept, MarkedBy, SameObjects, CountsGo, IsMarked, IsQuiet, AreLaidOut, ChunksHaveNames, BelongingsStand, IsBy, MarksStand, AreRoots, FramesAreRead, HoldsRead, Belongings, sources, KeepsJust, OthersNotes, StandsForAll, HoldsLarge, words, large_chunks, chunk_names, small_chunks}
pub use Rattle.core_invariant.specs.below.refinement_laws.{IsReachedNow, StartsNow}
pub use Rattle.core_invariant.specs.below.remembered_set.{AreFields, RefField, into, targets_of}
pub use Rattle.core_invariant.specs.below.run_ledger.{Heap, Ledger, Pool, chunk_words, collected, heap_of, in_use, is_small_size, or_fresh, swept_heap, with_heap, allocated_in, on_asked, stepped_to, task_step, task_steps, after, after_kind, chunk_units, kind_refusal, refusal, with_chunk, SoundAt, SoundLedger, NotMarking, NotWaiting, Swept, refused_unless, words_in, ledger_of, tasks_of, Refused, Left, Marked, Marking, NotDue, refused_if, left_in, marked_in, sweep_number, held_in, Previous, Other, Forked, WorkerPace, fork_of, previous_by, waits_on, waits_since, Owed, Nothing, is_to_mark, is_under_way, is_unmarked, more_of, owed_after, owed_to_marks, Count, units_sum, without_empty, words_at, in_snapshot, is_last_empty, holds_name, begun_in, held, small_in, units_in, words_sum, unless_wrong_number}
pub use Rattle.core_invariant.specs.below.run_trace.{Kind, Took, Ran, Chunk, Begin, End, PutOff, Mark, More, Sweep, Fuel, EntryValue, SettingsValue, field_limit}
pub use Rattle.core_invariant.specs.below.task_frames.{CallFrame, references_of, frames_of}
pub use Rattle.core_invariant.specs.below.task_machine.{Private, IsLastSmall, HasReservedUnits}
pub use Rattle.core_invariant.specs.below.task_slots.{ParkedTask, kept_of, resting_references, Work, Calls, Result, keeping, keeps_of, TaskSlotsValue}
pub use Rattle.core_invariant.specs.below.write_barrier.{SetOf, Content, content_at, content_of}
pub use Rattle.heap_marking.specs.MarkCauses.{marking_cause, waiting_cause, MarksRefuse, is_state_waiting, words_cause, waiting_cause_in}
pub use Rattle.heap_marking.specs.MarkStand.{MarkedHeapStands, StandsMarked}
pub use Rattle.heap_marking.specs.Marking.{MarksBegin, MarksCount, marked_more, Further, MarksEnter, MarksGoFurther, IsStart}
pub use Rattle.heap_marking.specs.Pace.{IsForkIn, IsForkOf, KeepsPace, PacesStay, is_going, is_live_child, is_state_joined, is_to_begin, HasGoneOn, IsOver, KeepsMarks, KeepsPrevious, TellsFork, TellsMark, previous_of, IsLastGoing}
pub use Rattle.heap_marking.specs.Starts.{MarkingHasBegun, starts_by, starts_in, starts_of, registers_of}
pub use Rattle.heap_marking.specs.Sweeping.{CanSweep, SweepsSlot}
pub use Rattle.heap_marking.specs.declared.pace.Pace.{Pace}
pub use Rattle.heap_marking.specs.declared.pace.PreviousKind.{PreviousKind}
pub use Rattle.journal_laws.proofs.History.{snapshots_are_held}
pub use Rattle.journal_laws.proofs.OwedEntries.{Touched, joins_grow, waits_tells}
pub use Rattle.std.proofs.Common.{◌≡◌, ℕ, zero, suc, ◌+◌, ◌<◌, ◌≤◌, Bool, true, false, cond, Option, Some, None, List, [], ◌∷◌, ◌++◌, slice_get, slice_set, inl, inr, refl, ap, sym, subst, ◌∙◌, arith, is_none, nat_lt, ◌&&◌, not, option_map, ◌-◌, ◌^◌, is_some, nat_le, ap₂, length, take, append_assoc, ◌⊎◌, ◌↔◌, ◌==◌, min, All, IsTrue, Contains, eq-eqb, length-append, ℤ, ◌*◌, ◌/◌, filter, map, ne_eqb, sum_by, below_more}
pub use Rattle.std.proofs.Math.Nat.{min-eq_left, min-eq_right}
pub use Rattle.std.proofs.lemmas.Bool.{cases_eq, false≢true, both_ways, and_parts, cases_lt, le-leb, false_from_ne_true, cond-true, lt-ltb, eqb-true, and_from, not-true, cond-false}
pub use Rattle.std.proofs.lemmas.Grind.{flat_map-append}
pub use Rattle.std.proofs.lemmas.List.{append-nil, length-take-le, map-append, length-map, set-set}
pub use Rattle.std.proofs.lemmas.List.Elements.{filter-append, All-get_or}
pub use Rattle.std.proofs.lemmas.List.Sums.{sum_by-append, sum_by-cons}
pub use Rattle.std.proofs.lemmas.Option.{same_Some}
pub use Rattle.std.specs.List.{flat_map}
pub use Rattle.std.specs.Option.{option_flatten}
pub use Rattle.std.specs.Prelude.{unwrap_or, IfSome, ◌≢◌, IsSome, ◌||◌}
