-- The names of lower crates and of the specifications that these proofs use. Declares nothing.
pub use Rattle.entry_calls.proofs.below.core_invariant.{same_length, worker_there, found_first, nothing_first, end_now, journal_by, four_changed, entry_on, steps_small, ran_world, ran_part, ran_others, fuel_all, fuel_world, at_work, calls, calls_of, has_node, some_calls, took_world, took_part, took_others, halted_fit, used_now, second_gives_first, first_by, outputs_now, enough_is, ran_answer, room_fit, room_world, steps_now, tree_long, took_answer}
pub use Rattle.entry_calls.proofs.below.fork_join_commit.{alone_ends, AsksEnd, asked_alone, asks_end, own_made, parent_low, tree_parent, asked, alone_forks, alone_world, rests_fork_by, other_made, parent_slot, parent_is, parent_other, same_itself, same_world, placed_has, placed_same, places_world, places_ends, places_same, left_by, Put, Taken, both_made, can_join, AsksFork, asks_fork, few_tasks, on, tree_out, fork_shared, forks_to, is_par_line, par_is, deep_traps, asked_alone_forks, alone_end_world}
pub use Rattle.entry_calls.proofs.below.heap_marking.{AsksMarked, AsksWaiting, asks_marked, asks_waiting, mark_asks, mark_enters, kept_noted, put_back, some_asks, some_count, some_enters, mark_answer, mark_begun, mark_fields, mark_starts, some_answer, words_now, further, marks_within, never_gone, never_unmarked, can_all, has_marking, m, marked, r, rest_is_there, sweep_answer, sweep_cause, few_at, would_be, rest, waits}
pub use Rattle.entry_calls.proofs.below.leaf_collections.{begin_count, begin_few, begin_free, begins, begins_with, places_fit, fresh, chunk_entered, full_entered, AsksLeafEnd, asks_leaf_end, are_fields, back_in_use, has_slot, leaf_ended, put_off_entered, reset, put_off_answer, AsksLeaf, LeafEntered, asks_leaf, without_fresh, chunk_answer, first_answer, begin_answer, begin_idle, end_answer}
pub use Rattle.entry_calls.proofs.below.plain_vec.{or_false, got_set, if_none, all_from, got_other, none_some}
pub use Rattle.entry_calls.proofs.below.step_commit.{runs_on, fits_machine, machine_same, alone_answer, alone_small, slot_there, next_small, set_there, AsksAlone, asks_alone, halt_world, halts_alone, printed_goes, printed_world, some_line, is_safe, tells, child_beyond, other_beyond, trap_is, finishes_alone, finished_world, node_there}
pub use Rattle.entry_calls.proofs.below.task_machine.{same_line}
pub use Rattle.entry_calls.specs.Calls.{GetsChunk, BeginsLeaf, BeginsMarking, EntersLeaving, EntersLent}
pub use Rattle.entry_calls.specs.Ran.{IsAtRootEnd, LeavesBy}
pub use Rattle.entry_calls.specs.below.chunk_pool.{PoolValue, TakesAll, slot_at, NotTaken, Full, units_in_use}
pub use Rattle.entry_calls.specs.below.copying_gc.{Moved, ToChunks}
pub use Rattle.entry_calls.specs.below.core_invariant.{NotEntered, NoMemory, SharedValue, accounts, rest_at, value_of, IsSharedValue, EachPartStillFits, WorkerPartFits, EntersOrRefuses, IsCaused, refused, Refuses, above_of, is_beyond, is_beyond_by, is_beyond_line, is_joint, first_cause, or_else, chunk_cause, part_asks, OthersFit, take_by, CopyingHasBegun, roots_of, Enters, heaps_of, sources_of, Prints, marks_at, taken_part, due_cause, FitsFirst, Ending, IsOutPart, Beyond, Returns, is_state_ready, took_cause}
pub use Rattle.entry_calls.specs.below.fork_join.{Child, EndedChild, joined_nodes}
pub use Rattle.entry_calls.specs.below.fork_join_commit.{IsAtEnd, is_last_return, is_last_by, is_last_line, EndsChild, IsAtFork, is_fork, is_fork_by, is_par, ForksOn, ForksTo, RestsFork, SetsFork, begun_rest, part_child, waiting_rest, IsUnchanged, SameButPlaces, CanJoin, HasPlaces, parent_side, HoldsNone}
pub use Rattle.entry_calls.specs.below.heap_marking.{marking_cause, waiting_cause, words_cause, Further, MarkingHasBegun, starts_in, SweepsSlot}
pub use Rattle.entry_calls.specs.below.heap_tree.{TaskNode, depth_of, forked, Ended, parent_of, state_of, with_state, sibling, Out, TaskState, Ready}
pub use Rattle.entry_calls.specs.below.hh_lang.{Instr, Par, Ret, Line, line_at}
pub use Rattle.entry_calls.specs.below.hh_model.{MachineState, Task, fetched, ended_by, step, Trapped, Done, Depth}
pub use Rattle.entry_calls.specs.below.leaf_collections.{FitsCopied, end_entry, without_collection}
pub use Rattle.entry_calls.specs.below.leaf_heap.{saturating_words, with_places, LeafHeapValue, IsFresh, added}
pub use Rattle.entry_calls.specs.below.mark_sweep_gc.{MarkingValue, AreGiven, IsAllMarked, IsMarking, IsOf, Fork, IsSince}
pub use Rattle.entry_calls.specs.below.object_layout.{small_words, ChunkValue, number_of, Addr, HasObjectAt, with_ref, cell_of, object_of, cell_with_int}
pub use Rattle.entry_calls.specs.below.plain_vec.{ReservedVecValue}
pub use Rattle.entry_calls.specs.below.refinement.{CanGoOnMarking, kept}
pub use Rattle.entry_calls.specs.below.remembered_set.{RememberedValue, redirected, AreAscending, ArePlaces, StandOnce}
pub use Rattle.entry_calls.specs.below.run_ledger.{Ledger, Marked, Marking, is_fuel, owns, task_steps, touched, Refused, Collecting, refused_if, Machine, heap_of, left_in, Pool, chunk_units, in_use, PoolShort, is_pool_enough, refused_unless, words_in, PoolEnough, NotReady, refused_holding, sweep_number}
pub use Rattle.entry_calls.specs.below.run_trace.{EntryValue, Chunk, Begin, Mark, PutOff, More, Ran, Sweep, Fuel, Took, field_limit, private_limit}
pub use Rattle.entry_calls.specs.below.step_commit.{IsShared, alone_entry, machine_after, HaltsAlone, then_accounts, GoesAlone, EndingTells, FinishesAlone, ended_rest}
pub use Rattle.entry_calls.specs.below.task_frames.{FramesValue, frames_with_int, with_next, with_reference}
pub use Rattle.entry_calls.specs.below.task_machine.{Private, FitsNow, Places}
pub use Rattle.entry_calls.specs.below.task_slots.{Heaps, ParkedTask, TaskSlotsValue, TaskSlot, Resting, resting_references, with_ref_in, with_resting, kept_of, keeping}
pub use Rattle.entry_calls.specs.below.write_barrier.{SetOf, content_of, content_after, content_at, bare_noted}
pub use Rattle.entry_calls.specs.declared.answers.Lent.{Lent}
pub use Rattle.remote_access.proofs.OtherEntries.{number_goes, number_world, reference_goes, reference_world}
pub use Rattle.remote_access.proofs.SetRooms.{roomier_same, roomier_world}
pub use Rattle.remote_access.specs.Other.{IsOther, SameButRoom, is_other, is_other_by, is_other_line, TellsOther, put_rest, store_frames, store_of}
pub use Rattle.remote_access.specs.declared.other.OtherStep.{OtherStep}
pub use Rattle.remote_access.specs.declared.other.OtherStep.TheVariants.{SetsNumber, Stops, StoresNumber, Traps, SetsReference}
pub use Rattle.shared_tree.specs.StepEnd.{HasNextLine, MayBeEntered}
pub use Rattle.shared_tree.specs.contracts.shared.Shared.{the_view}
pub use Rattle.std.proofs.Common.{◌≡◌, Result, Ok, Err, sym, subst, ℕ, Option, List, ap₂, ◌∙◌, ◌||◌, not, true, Some, None, length, slice_get, slice_set, option_map, is_some, refl, ap, ◌+◌, ◌-◌, ◌++◌, [], ◌∷◌, false, map, arith, ◌<◌, length-set, All, fold, w64, ℤ, SFits, rules, min, option_copied, ◌≤◌, inl, inr, ◌^◌, ◌==◌, ◌↔◌, IsTrue, IfOk, replicate, nat_le, Bool}
pub use Rattle.std.proofs.lemmas.Bool.{cases_lt}
pub use Rattle.std.proofs.lemmas.Int.{to_z-of_z}
pub use Rattle.std.proofs.lemmas.Option.{same_Some}
pub use Rattle.std.specs.Borrow.{Bor}
pub use Rattle.std.specs.Option.{option_flatten}
pub use Rattle.std.specs.Prelude.{IsErrAnd, IsSome, OnErr, slice_index_or, Vec, OnOk, IfSome}
pub use Rattle.std.specs.Result.{IfErr}
pub use Rattle.std.specs.declared.alloc.Global.{Global}
