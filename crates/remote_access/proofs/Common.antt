-- The names of lower crates and of the specifications that these proofs use. Declares nothing.
pub use Rattle.remote_access.specs.Other.{IsOther, IsReadable, SaysOther, TellsOther, is_other, is_other_by, is_other_line, object_named, other_step, then_places, put_rest, ReadsTo, or_frozen, or_range, reads_into, swaps, yields, SameButRoom, IsWritable, WritesNumber, WritesReference, store_frames, store_of}
pub use Rattle.remote_access.specs.declared.other.OtherStep.{OtherStep}
pub use Rattle.remote_access.specs.declared.other.OtherStep.TheVariants.{SetsNumber, SetsReference, StoresReference, Swaps, StoresNumber}
pub use Rattle.std.proofs.Common.{◌≡◌, ℕ, ◌||◌, Bool, true, false, Some, None, refl, ap, ap₂, sym, ◌∙◌, ◌==◌, Option, subst, eq-eqb, pos, ◌∷◌, slice_get, unwrap_or, inl, ◌<◌, not, List, length, is_some, cond, map, slice_set, is_none, inr, ℤ, ◌+◌, ◌++◌, [], option_map, ◌⊎◌, ◌≤◌, ◌&&◌, arith, length-set, zero, suc}
pub use Rattle.std.proofs.lemmas.Bool.{and_from, false≢true, cases_eq, cond-true, cond-false, ne_eqb, both_ways, false_from_ne_true, and_parts, not-true}
pub use Rattle.std.proofs.lemmas.List.{append-nil}
pub use Rattle.std.proofs.lemmas.Option.{same_Some, slice_get-get_or}
pub use Rattle.std.specs.Option.{option_flatten}
pub use Rattle.std.specs.Prelude.{IsSome, slice_index_or, option_to_list}
pub use Rattle.step_commit.proofs.AloneEntries.{AsksAlone}
pub use Rattle.step_commit.proofs.LastStepEntry.{AsksLast, goes_alone, last_enters, last_steps, last_entry}
pub use Rattle.step_commit.proofs.LastSteps.{machine_same}
pub use Rattle.step_commit.proofs.OtherStepKinds.{reading, same_object, writing}
pub use Rattle.step_commit.proofs.below.core_invariant.{seen_object, owner_held, IsWell, free_at_rest, by_chunks, measured_written, chunks_elsewhere, chunks_put, chunks_same, form_written, room_written, refs_long, same_form, MakesSteps, steps_world, all_kept, noted_is, noted_of, part_idle, stands_now, parent_is, ChangesRest, changed_form, entered_world, part_fits, still_goes, tasks_apart, fits_held, stands_for_held}
pub use Rattle.step_commit.proofs.below.hh_model.{at_in, in_registers, names_run, named_from_in, seen, step_taken, path_le, place_within}
pub use Rattle.step_commit.proofs.below.object_layout.{is_same, same_is}
pub use Rattle.step_commit.proofs.below.path_laws.{run_stored, waiting_stops}
pub use Rattle.step_commit.proofs.below.plain_vec.{same_truth, none_some, got_other, got_same, got_within, in_append_cases, in_append_left, in_append_right, got_none}
pub use Rattle.step_commit.proofs.below.refinement.{field_of, at_belongings, name_at, in_chunk, off_belongings, all_set, goes_on}
pub use Rattle.step_commit.proofs.below.refinement_laws.{frames_go, ran_fits_then, ran_stands_for, ran_leaves}
pub use Rattle.step_commit.proofs.below.remembered_set.{source_in}
pub use Rattle.step_commit.proofs.below.run_ledger.{same_from_is_name, tasks_are_out_once, held_is}
pub use Rattle.step_commit.proofs.below.task_machine.{born_is, born_object}
pub use Rattle.step_commit.specs.Alone.{IsShared, GoesAlone, alone_entry}
pub use Rattle.step_commit.specs.below.chunk_list.{Level}
pub use Rattle.step_commit.specs.below.chunk_pool.{slot_at, owner_of, PoolValue}
pub use Rattle.step_commit.specs.below.core_invariant.{SharedValue, accounts, IsSharedValue, WorkerPartFits, frames_down, belongings_by, belongings_in, rest_at, value_of, chunks_of, belongings_of_part, next_line, belongings_of, no_belongings, value_by, with_marks, HeapForm, marks_at, noted_in, tree_counts_of, part_of, OthersFit, Enters}
pub use Rattle.step_commit.specs.below.heap_tree.{node_on_path, TaskNode, parent_of}
pub use Rattle.step_commit.specs.below.hh_lang.{Instr, Getr, Geti, Putr, Puti, Cntr, Cnti, Freeze, Cas, Line, line_at, Set, Mov, Movr, Nil, Calc, Same, Jmp, Jz, Newm, Pack, Call, Par, Ret, Out}
pub use Rattle.step_commit.specs.below.hh_model.{MachineState, Task, Name, same_name, Object, int_in, object_at, ref_in, task_names, Frame, fetched, onward, Trap, Range, Frozen, Effect, Goes, Stops, Traps, effect, or_trap, place_in, put_object, read_effect, unless_frozen, with_object, refs_of, precedes, can_step, follow, is_running, runs, setting, step, strand_of, IsStored, Closed, parents, path_by, through, is_waiting}
pub use Rattle.step_commit.specs.below.leaf_heap.{LeafHeapValue, room_of}
pub use Rattle.step_commit.specs.below.ledger_step_laws.{Rests, own, rested, Splits, JustReads, Reading, ReadsOther, RunsPrivateSteps, stepped_by, WritesOther, Writing}
pub use Rattle.step_commit.specs.below.object_layout.{Addr, same_address, same_reference, Located, Birth, Born, Cell, cell_of, object_of, size_of, located, with_fields, BeginsInFirstUnit, cell_with_int, with_ref}
pub use Rattle.step_commit.specs.below.plain_vec.{ReservedVecValue, option_is}
pub use Rattle.step_commit.specs.below.refinement.{Lies, Memory, object_name, ReadsReference, LiesWithOwner, MemoryStands, Belongings, In, objects, objects_of_chunks, with_belongings, AllRead, FrameIsRead, FramesAreRead, HoldsRead, Chunk, mapped_chunk, put_at, sources, WritesAt, words, BelongingsStand, StandsForAll, WorkerFits, gone_on, StoresInto, StoresNotes, Stores, BelongingsAfterStore, StoreMarks, StoresAt, StoresNumberAt, with_field, with_int_field, KeepsOldValue, OthersNotes, as_node, part_for, RanCounts, StandsFor, by_end, Noted}
pub use Rattle.step_commit.specs.below.remembered_set.{RefField, has_source, with_noted_source}
pub use Rattle.step_commit.specs.below.run_ledger.{task_steps, Ledger, owns, touched, heap_of, Heap, or_fresh}
pub use Rattle.step_commit.specs.below.run_trace.{EntryValue}
pub use Rattle.step_commit.specs.below.task_frames.{int_of, ref_of, CallFrame, with_next, with_reference, FramesValue}
pub use Rattle.step_commit.specs.below.task_machine.{Private}
pub use Rattle.step_commit.specs.below.task_slots.{ParkedTask, Work, Calls, Result}
pub use Rattle.step_commit.specs.below.write_barrier.{PointsIntoOwned, SetOf, content_at, content_after, Content, content_of, is_down, with_source}
