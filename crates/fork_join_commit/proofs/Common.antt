-- The names of lower crates and of the specifications that these proofs use. Declares nothing.
pub use Rattle.fork_join_commit.specs.ChildEnds.{EndsChild, running_parent, where_running, IsAtEnd, is_last_return, is_last_by, is_last_line}
pub use Rattle.fork_join_commit.specs.Forks.{nothing_noted, ForksTo, IsAtFork, is_fork, is_fork_by, is_par, SetsFork, ForksOn, RestsFork, waiting_rest, begun_rest, part_child}
pub use Rattle.fork_join_commit.specs.Joins.{sources_by, RestsJoin, SetsJoin, sources_at, AreSides, CanJoin, HasPlaces, IsRestOf, chunk_count, left_child_of, other_child, own_child, parent_side, right_of, IsSameRest, SameButPlaces, part_result, work_result, GetsPlaces, HasHeapRoom, HasSetRoom, SameButPlacesOf, chunks_of_both, sources_of_both}
pub use Rattle.std.proofs.Common.{◌≡◌, ℕ, false, Some, None, slice_get, refl, ap, sym, ◌∙◌, if◌then◌else◌, ℤ, ◌+◌, ◌-◌, ◌<◌, ◌&&◌, arith, not, Bool, true, Option, List, [], ◌∷◌, length, option_map, is_some, subst, ◌⊎◌, zero, suc, ◌++◌, nat_lt, length-set, slice_set, inl, inr, ap₂, length-append, ◌^◌, eqb, eq-eqb, append_assoc, ◌≤◌, ◌*◌, ◌/◌, ◌↔◌, is_none, cond, map, ◌%◌, ◌==◌}
pub use Rattle.std.proofs.Math.Path.{fun_ext}
pub use Rattle.std.proofs.lemmas.Bool.{and_parts, cond-false, cond-true, false≢true, cases_eq, cases_lt, lt-ltb, cases_Bool, or_from, both_ways, ltb-true, eqb-false, false_from_ne_true}
pub use Rattle.std.proofs.lemmas.Bool.Decides.{Decides-eqb}
pub use Rattle.std.proofs.lemmas.List.{map-append, get_or_append_left, get_or-append-add}
pub use Rattle.std.proofs.lemmas.List.Elements.{All-append}
pub use Rattle.std.proofs.lemmas.Option.{same_Some}
pub use Rattle.std.specs.Option.{option_flatten}
pub use Rattle.std.specs.Prelude.{Contains, IfSome, IsSome}
pub use Rattle.step_commit.proofs.AloneEntries.{AsksAlone, node_there, runs_on}
pub use Rattle.step_commit.proofs.LastKinds.{forks_not, joined_not}
pub use Rattle.step_commit.proofs.LastStepEntry.{AsksLast, last_entry, last_steps, last_enters}
pub use Rattle.step_commit.proofs.LastSteps.{machine_same, fits_machine}
pub use Rattle.step_commit.proofs.TaskDepths.{AreDeep, deep_in, run_deep}
pub use Rattle.step_commit.proofs.below.core_invariant.{accounts_are, still_goes, MakesSteps, steps_others, steps_world, lets_go, node_now, After, parent_is, noted_of, RestIsWell, RestStays, each_form, free_before, task_is_out, well_at, all_kept, level_is, tree_long, made_by, node_by, node_off, by_chunks, chunk_in, owner_held, none_at, stands_now, HasCalls, some_calls, places_form, tasks_apart, free_at_rest, measured_both, measured_kept, part_kept, relabelled_keeps, relabelled_measured, relabelled_own, status, same_length, noted_is, counted_from, has_calls}
pub use Rattle.step_commit.proofs.below.fork_join.{joined_are_owned, behind}
pub use Rattle.step_commit.proofs.below.heap_tree.{all, states_change}
pub use Rattle.step_commit.proofs.below.hh_model.{grown_at, waits_is}
pub use Rattle.step_commit.proofs.below.journal_laws.{journals_are_counted, since_is_few}
pub use Rattle.step_commit.proofs.below.ledger_step_laws.{with_off, rested_view}
pub use Rattle.step_commit.proofs.below.object_layout.{found_any, apart_together, has_append}
pub use Rattle.step_commit.proofs.below.path_laws.{waiting_stops, wait_there}
pub use Rattle.step_commit.proofs.below.plain_vec.{got_other, got_same, none_some, got_back, got_front, got_past, got_some, got_set, any_from_in, contains_from_in, in_append_cases, in_append_left, in_append_right, in_from_contains, in_map, map_in, got_within, all_from}
pub use Rattle.step_commit.proofs.below.refinement.{at_belongings, off_belongings, in_chunk, in_objects, lies_in}
pub use Rattle.step_commit.proofs.below.remembered_set.{lifted_are_there}
pub use Rattle.step_commit.proofs.below.run_ledger.{steps_are_bounded, ran_tells, task_steps_steps, heap_machine}
pub use Rattle.step_commit.proofs.below.task_machine.{is_some_place, same_line}
pub use Rattle.step_commit.specs.Alone.{IsShared, alone_entry, machine_after, EndingTells}
pub use Rattle.step_commit.specs.below.chunk_list.{view_below, Level}
pub use Rattle.step_commit.specs.below.chunk_pool.{PoolValue, owner_of, Slot, slot_at}
pub use Rattle.step_commit.specs.below.core_invariant.{SharedValue, IsSharedValue, refused, WorkerPartFits, accounts, levels_of, marks_at, belongings_in, belongings_of, noted_in, tree_counts_of, value_of, rest_at, chunk_of, chunks_of, belongings_by, HeapForm, HasFrames, AreMeasured, IsFree, part_of, IsMeasured, KeepsUnits, Traps, above_of, next_line}
pub use Rattle.step_commit.specs.below.fork_join.{Child, AreRelabelled, with_results, joined_nodes, EndedChild, HasCapacityForBoth, HaveEnded, JoinsSides, AreInUse, Side}
pub use Rattle.step_commit.specs.below.heap_tree.{Ended, state_of, TaskState, TaskNode, parent_of, child_of, depth_of, forked, with_state, is_left, sibling, Ready}
pub use Rattle.step_commit.specs.below.hh_lang.{Instr, Ret, Line, Par, ProgramText, Out}
pub use Rattle.step_commit.specs.below.hh_model.{MachineState, Task, child_ended_by, ended_task, is_running, parents, result_of, with_task, Frame, Name, TaskStatus, Running, Waiting, Joined, effect, fetched, follow, is_joined, is_over, is_waiting, result_at, last_of, last_return, result_in, returned_to, setting, step, TreeOf, onward, child, depth_limit, edge, strand, strand_of, waits, Trapped, Depth, ended_by, AreLow, join_of, joined_task, or_same, resumed}
pub use Rattle.step_commit.specs.below.leaf_heap.{LeafHeapValue, saturating_words, merged, room_of, with_places, IsCurrent, IsReserved, IsTidy}
pub use Rattle.step_commit.specs.below.ledger_step_laws.{EndsFirst, Ending, RunsPrivateSteps, rested, Forking, LastStepForks, Rests, own, EndsLast, IsOfKind, JustReads, LastKind, ChangesByWrite, Reading, Writing, Printing, Joining, Finishing, Halting}
pub use Rattle.step_commit.specs.below.mark_sweep_gc.{MarkingValue}
pub use Rattle.step_commit.specs.below.object_layout.{Addr, has_chunk, ChunkValue, HaveDistinctNumbers, chunk_at, no_chunk, words_in, Located}
pub use Rattle.step_commit.specs.below.plain_vec.{ReservedVecValue}
pub use Rattle.step_commit.specs.below.refinement.{state_by, as_node, Belongings, Noted, Memory, sources, AreRoots, ForksBelongings, advanced, child_belongings, with_belongings, NodesFork, ForksNotes, Chunk, no_belongings, In, IsLifted, JoinsBelongings, top_with_results, MemoryStands, NodesJoin, JoinsNotes, StandsForAll, WorkerFits, node_then, HasResult, objects_of_chunks, StandsFor, objects, IsSource, part_for, reserved_chunks, reserved_units, HoldsRead, TaskIsRead, ChunksHaveNames, BelongingsStand, LiesWithOwner}
pub use Rattle.step_commit.specs.below.remembered_set.{RefField, lifted, RememberedValue, notes_in}
pub use Rattle.step_commit.specs.below.run_ledger.{Ledger, has_no_caller, is_open, is_private_by, is_private_line, Heap, heap_of, is_private, let_go, or_fresh, CountsFew}
pub use Rattle.step_commit.specs.below.run_trace.{EntryValue, private_limit}
pub use Rattle.step_commit.specs.below.task_frames.{FramesValue}
pub use Rattle.step_commit.specs.below.task_machine.{Private, HasReservedUnits, IsLastLarge, IsLastSmall, FitsNow, Places, HeapMatchesAccount}
pub use Rattle.step_commit.specs.below.task_slots.{ParkedTask, keeping, Work, Calls, Result, TaskSlot, TaskSlotsValue}
pub use Rattle.step_commit.specs.below.write_barrier.{SetOf, content_at, content_of, bare_noted, Content}
