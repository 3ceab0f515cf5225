-- The names of lower crates and of the specifications that these proofs use. Declares nothing.
pub use Rattle.chunk_list.specs.View.{Level, level_of, nearest, piece_in, seen_at, seen_in}
pub use Rattle.copying_gc.specs.Redirected.{new_address}
pub use Rattle.core_invariant.specs.Again.{KeepsPlaces}
pub use Rattle.core_invariant.specs.Causes.{first_cause, or_else, is_state_ready, took_cause}
pub use Rattle.core_invariant.specs.Due.{take_by}
pub use Rattle.core_invariant.specs.Entered.{refused, Enters}
pub use Rattle.core_invariant.specs.WorkerPartFits.{WorkerPartFits, part_of, belongings_of_part, EachPartStillFits, OthersFit, beyond, HasFrames, taken_part}
pub use Rattle.core_invariant.specs.Links.{FitsFirst, above_of, find_at}
pub use Rattle.core_invariant.specs.Measured.{AreMeasured, IsMeasured, IsFree, KeepsUnits, RestsAreMeasured, AreUnits}
pub use Rattle.core_invariant.specs.Next.{instr_asks, line_asks, part_asks}
pub use Rattle.core_invariant.specs.Objects.{chunks_of, chunk_of, birth_in, levels_of, shown, shown_chunk, OffsetsAreSmall}
pub use Rattle.core_invariant.specs.Roots.{sources_of, heaps_of, roots_of}
pub use Rattle.core_invariant.specs.SharedValue.{SharedValue, accounts, tree_counts_of, value_of, rest_at, belongings_by, belongings_in, belongings_of, noted_in, first_rest, frames_down}
pub use Rattle.core_invariant.specs.Stands.{IsSharedValue, HeapForm}
pub use Rattle.fork_join.specs.Joined.{AreRelabelled, with_owner}
pub use Rattle.leaf_heap.proofs.ChunkAdded.{fresh_cons}
pub use Rattle.leaf_heap.proofs.Counting.{writes_keep_counts}
pub use Rattle.leaf_heap.proofs.PlacedLaws.{cell_of-others}
pub use Rattle.leaf_heap.proofs.Settled.{settled_placed}
pub use Rattle.leaf_heap.specs.FieldLaws.{with_ref_of}
pub use Rattle.leaf_heap.specs.LeafHeapValue.{HaveDistinctNumbers, LeafHeapValue, room_of, room_at, IsFresh, saturating_words, IsReserved, with_places, AreTidy, IsTidy, units, place_for, with_object_placed, AgreesWithChunks, placed_at, CellsFitInChunks}
pub use Rattle.leaf_heap.specs.PlaceLaws.{SameChunkCounts}
pub use Rattle.refinement_laws.proofs.below.hh_model.{runs_idle, runs_is, run_on, start_is_fork_join_state, path_along, path_le, runs_live, limit_from}
pub use Rattle.refinement_laws.proofs.below.ledger_step_laws.{rested_view, with_off, rested_worker, legal_knows, leaf_alone, private_off, with_at, heap_then, GoesOn, private_on, entry_runs}
pub use Rattle.refinement_laws.proofs.below.object_layout.{object_read, objects_lie_there, is_same, same_is, chunk_there, behind, length-put, put_changes_one, appended_is_last, words_in-push, has_own}
pub use Rattle.refinement_laws.proofs.below.plain_vec.{none_of, contains_from_in, got_other, got_set, none_some, got_same, map_in, any_from_in, in_from_any, in_map, all_at, in_got, in_append_cases, in_append_left, in_append_right, each_from, got_within, none_is, read_in}
pub use Rattle.refinement_laws.proofs.below.run_ledger.{machine_goes_on, entry_tells, legal_then, heap_machine, journals_can_be_cut, tasks_are_out_once, kind_machine, machine_is_run, is_name_itself, same_from_is_name, wait_run, allocated_end, ran_tells, collecting_is, task_step_machine, steps_last, none_unless}
pub use Rattle.refinement_laws.proofs.below.task_machine.{same_line, int_same, words_for_some, outline_at, outline_size, written_outline, shape_written, born_is, size_pushed, shape_placed}
pub use Rattle.refinement_laws.proofs.below.refinement.{belongings_kept, belongings_own, gives_kept, source_same, noted_mutable, at_belongings, off_belongings, notes_stay, same_whole, root_same, name_at, object_kept, task_kept, in_chunk, in_objects, lies_in}
pub use Rattle.refinement_laws.specs.below.refinement.{SameObjects, SameBut, PartFits, CountsGo, IsMarked, IsQuiet, TakesNode, BelongingsAfter, EntryMakes, taken_by, FitsAt, with_belongings, Part, ahead, part_for, IsSteady, AreLaidOut, reserved_chunks, reserved_units, DontOverlap, HoldsLarge, words, IsReachedAt, AreRoots, IsRememberedRoot, Marks, In, objects_of_chunks, Memory, Chunk, mapped_chunk, mapped_belongings, put_at, rewritten_belongings, Belongings, is_source, rewritten, rewritten_refs, Noted, object_name, objects, Lies, shown_at, chunk_among, frozen_chunks, as_shown, sources, RanCounts, TasksOutGo, LetsGo, AllRead, TaskIsRead, FrameIsRead, FramesAreRead, HoldsRead, IsModelObject, ReadsReference, NotedAt, MarksOn, NotesStay, MemoryStands, BelongingsStand, chunk_names, small_chunks, ChunksHaveNames, large_chunks, LiesWithOwner, IsSource, StandsFor, as_node, by_end, handed, state_by, BegunBy, StandsForAll, TreeCounts, WorkerFits, IsBy}
pub use Rattle.refinement_laws.specs.below.heap_tree.{TaskNode, root_node, TaskState, Out, set_at, with_state, parent_in}
pub use Rattle.refinement_laws.specs.below.hh_lang.{IsProgram, ProgramText, Instr, Newm, Pack, Line, Fun, IsFunction, NamesExist, code_of, line_at}
pub use Rattle.refinement_laws.specs.below.hh_model.{Done, Trapped, Entangled, MachineState, Running, Task, is_waiting, TaskStatus, Waiting, Ended, Joined, is_running, runs, Name, object_at, Frame, counts_in, words_asked, words_for, asked, asked_by, asked_line, fetched, row_of, is_joined, Object, is_on_path, parents, run, run_from, start, step, can_step, goes_on, parent_of}
pub use Rattle.refinement_laws.specs.below.ledger_step_laws.{rested, Rests, aside, own, StepsAlone, LedgerIsKnown, ArePrivate, RunsPrivateSteps, LastKind, Reading, Writing, Printing, Forking, Ending, Joining, Finishing, Halting}
pub use Rattle.refinement_laws.specs.below.mark_sweep_gc.{MarkingValue, AreGiven}
pub use Rattle.refinement_laws.specs.below.object_layout.{Addr, Birth, Born, Cell, Hole, Mark, Moved, size_of, ChunkValue, cell_of, place_in, chunk_position, Located, located, located_by, objects_from, objects_of, LiesThere, marked_object, with_ref, put_object, same_address, with_cell, with_fields, small_words, chunk_at, words_in, moved_to, object_words_in, held_size, held_words, PieceValue, frozen_at, frozen_from, lasts, object_count, one_each, sum_in, cell_at, changed_at, no_cell, no_chunk, push_object, object_of, has_chunk, small_part, number_of, objects_in}
pub use Rattle.refinement_laws.specs.below.plain_vec.{option_is, ReservedVecValue, is_empty}
pub use Rattle.refinement_laws.specs.below.remembered_set.{RefField, target_of, new_reference, redirected, written, StandOnce, same_source, AreFields, into, targets_of}
pub use Rattle.refinement_laws.specs.below.run_ledger.{Heap, Ledger, RunEnd, Fuel, Machine, Pool, heap_at, heap_of, in_use, let_go, units_in, with_heap_at, out_from, Refused, Over, Spent, NoWorker, NotReady, kind_refusal, is_fuel, refused_if, refused_unless, refused_holding, Collecting, NotOut, or_fresh, task_steps, is_out, on_running, collecting, after, is_legal, ledger_of, opening, small_in, take_of, object_words_of, words_sum, is_pool_enough, words_at, SoundLedger, tasks_of, is_name, fresh, put_last, is_small_size, allocated_by, allocated_in, settled, moved_on, stepped_to, task_step, is_private, is_due, is_in_need, standing, Long, most_steps, is_ready}
pub use Rattle.refinement_laws.specs.below.run_trace.{Took, EntryValue, AreSettings, SettingsValue, field_limit, Ran}
pub use Rattle.refinement_laws.specs.below.task_frames.{CallFrame, int_of, FramesValue}
pub use Rattle.refinement_laws.specs.below.task_machine.{Private, Begun, small_lists, HasReservedUnits, HeapMatchesAccount, large_names, named_by, names_in, name_of, FitsNow, FrameStands, Places, IsLastLarge, IsLastSmall, outline_of_cell, outline_of_chunk, outline_after, outline_by, outline_of, steps, AreAt, FramesStand, NamesAddress, birth_of, HeapStands, IsOwnObject, IsReachedByRun, IsShownBy, StackStands, HeapIsShaped, unended}
pub use Rattle.refinement_laws.proofs.parts.NonMovingEntries.{aside_is}
pub use Rattle.refinement_laws.proofs.parts.OwnFits.{quiet_fits_then}
pub use Rattle.refinement_laws.proofs.parts.Parts.{ahead_alone, ahead_sound}
pub use Rattle.refinement_laws.proofs.parts.RanFits.{ran_fits_then}
pub use Rattle.refinement_laws.proofs.parts.TookFits.{took_fits_then}
pub use Rattle.refinement_laws.proofs.parts.Workers.{ran_leaves}
pub use Rattle.refinement_laws.proofs.parts.WorkersPast.{quiet_leaves, took_leaves}
pub use Rattle.refinement_laws.proofs.whole.EntriesWhole.{quiet_stands_for, took_stands_for}
pub use Rattle.refinement_laws.proofs.whole.Journals.{first, first_stands}
pub use Rattle.refinement_laws.proofs.whole.RanWhole.{ran_stands_for}
pub use Rattle.refinement_laws.proofs.whole.TasksOut.{tasks_out_are_told}
pub use Rattle.std.proofs.Common.{◌≡◌, ℕ, false, Option, Some, None, is_some, length, option_map, slice_get, refl, ap, sym, subst, ◌∙◌, ◌<◌, ◌&&◌, not, Bool, true, is_none, nat_le, nat_lt, ap₂, suc, ◌+◌, ◌==◌, arith, cond, List, [], ◌∷◌, ◌++◌, ◌⊎◌, inl, inr, eq-eqb, le-leb, length-set, slice_set, ◌-◌, fold, map, zero, ◌||◌, All, ℤ, replicate, ◌↔◌, ◌^◌, ◌≤◌, ◌*◌, ◌/◌, ne_eqb, filter, length-append, sum_by, min, take_all}
pub use Rattle.std.proofs.Math.Path.{fun_ext}
pub use Rattle.std.proofs.lemmas.Bool.{ltb-true, cond-true, false≢true, and_from, cases_eq, eqb-true, cases_lt, lt-leb, cond-false, false_from_ne_true, and_parts, both_ways, cases_Bool}
pub use Rattle.std.proofs.lemmas.List.{length-map, get_or_default, get_or-set_other, get_or-set_same, take_more}
pub use Rattle.std.proofs.lemmas.List.Elements.{All-head, All-tail, All-cons, All-nil, All-from_get_or, All-get_or}
pub use Rattle.std.proofs.lemmas.List.Sums.{sum_by-append, sum_by-cons}
pub use Rattle.std.proofs.lemmas.Option.{same_Some, get_or_from_slice_get, slice_get-get_or}
pub use Rattle.std.specs.List.{list_any, flat_map, AllByRecursion}
pub use Rattle.std.specs.Option.{option_flatten, option_or}
pub use Rattle.std.specs.Prelude.{slice_index_or, unwrap_or, IsSome}
pub use Rattle.task_slots.specs.RestingHeaps.{Resting, refs_for, resting_references, with_ref_at, with_ref_for, with_ref_in}
pub use Rattle.task_slots.specs.TaskSlotsValue.{refs_of_rest}
pub use Rattle.task_slots.specs.below.chunk_pool.{units_in_use, PoolValue, owner_of, Slot, slot_at, Reserves, TakesAll, slot_in, one_unit}
pub use Rattle.task_slots.specs.below.write_barrier.{SetOf, Content, content_of}
pub use Rattle.task_slots.specs.declared.task_at_rest.ParkedTask.{ParkedTask}
pub use Rattle.task_slots.specs.declared.task_at_rest.Work.{Work}
pub use Rattle.task_slots.specs.declared.task_at_rest.Work.TheVariants.{Calls, Result}
