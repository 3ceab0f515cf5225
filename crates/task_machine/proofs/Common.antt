-- The names of lower crates and of the specifications that these proofs use. Declares nothing.
pub use Rattle.hh_lang.specs.Form.{ProgramText, IsProgram, line_at, code_of}
pub use Rattle.hh_lang.specs.declared.instr.Instr.{Instr}
pub use Rattle.hh_lang.specs.declared.instr.Instr.TheVariants.{Newm, Pack, Set, Mov, Movr, Nil, Calc, Same, Jmp, Jz, Getr, Geti, Putr, Puti, Cntr, Cnti, Freeze, Cas, Call, Par, Ret, Out}
pub use Rattle.hh_lang.specs.declared.instr.Operator.{Operator}
pub use Rattle.hh_lang.specs.declared.program.Line.{Line}
pub use Rattle.hh_model.proofs.Carried.{at_in}
pub use Rattle.hh_model.proofs.Climbs.{owner_here}
pub use Rattle.hh_model.proofs.Counts.{start_counted, rows_from, run_push}
pub use Rattle.hh_model.proofs.EndLaws.{still}
pub use Rattle.hh_model.proofs.ForkJoinStates.{start_is_fork_join_state, run_is_fork_join_state}
pub use Rattle.hh_model.proofs.Lists.{last_push, front_push}
pub use Rattle.hh_model.proofs.Next.{always_next}
pub use Rattle.hh_model.proofs.Paths.{path_le}
pub use Rattle.hh_model.proofs.Runs.{running_tells}
pub use Rattle.hh_model.proofs.Steps.{in_registers, names_run, runs_is}
pub use Rattle.hh_model.proofs.Taken.{next_fits, step_taken}
pub use Rattle.hh_model.specs.Effect.{counts_in, int_in, row_of, ref_in, Goes, made, or_trap, onward, with_ref, Calls, Returns, Effect, Traps, effect, object_at, with_object, same_name, unless_frozen, with_int, calculated, flag, int_eq, read_effect}
pub use Rattle.hh_model.specs.Names.{words_asked, words_for, task_names}
pub use Rattle.hh_model.specs.NextLaw.{HasNext}
pub use Rattle.hh_model.specs.Step.{asked, asked_by, asked_line, fetched, is_running, owner_of, joined, is_joined, parents, setting, start, step, back_in, ended_by, entry_frame, frame_limit, front_of, last_of, returned_to, with_task, can_step, follow, goes_on, owner_in, parent_of, path_in, run}
pub use Rattle.hh_model.specs.Store.{IsStored}
pub use Rattle.hh_model.specs.Tree.{AreLow}
pub use Rattle.hh_model.specs.declared.data.End.{End}
pub use Rattle.hh_model.specs.declared.data.End.TheVariants.{Trapped}
pub use Rattle.hh_model.specs.declared.data.Frame.{Frame}
pub use Rattle.hh_model.specs.declared.data.MachineState.{MachineState}
pub use Rattle.hh_model.specs.declared.data.Name.{Name}
pub use Rattle.hh_model.specs.declared.data.Object.{Object}
pub use Rattle.hh_model.specs.declared.data.Task.{Task}
pub use Rattle.hh_model.specs.declared.data.Trap.{Trap}
pub use Rattle.hh_model.specs.declared.data.Trap.TheVariants.{Size, Depth, Range, Frozen, Div}
pub use Rattle.leaf_heap.proofs.ChunkAdded.{at_last, IsCurrent-push, IsReserved-push, counted_more}
pub use Rattle.leaf_heap.proofs.HeapLemmas.{part-set, none_there, place_in-set}
pub use Rattle.leaf_heap.proofs.PlacedLaws.{apart_added, apart_set, cell_of-placed, cell_of-others}
pub use Rattle.leaf_heap.proofs.Settled.{put_apart}
pub use Rattle.leaf_heap.specs.LeafHeapValue.{HaveDistinctNumbers, LeafHeapValue, IsCurrent, IsReserved, place_for, placed_at, IsFresh, added, with_places, saturating_words, large_place, room_at, small_place, units, with_object_placed}
pub use Rattle.leaf_heap.specs.below.chunk_list.{Level, seen_at}
pub use Rattle.object_layout.proofs.ChunkLaws.{chunk_of_object, object_is, same_addr, addr_cases, cell_of-push_other, cell_of-put_other, cell_of-put_same, length-put, mark_put, place_in-put}
pub use Rattle.object_layout.proofs.PlaceLemmas.{words_in-push, map-put_cell}
pub use Rattle.object_layout.specs.Cell.{Born, Cell, Mark, size_of, IsObject, BeginsInFirstUnit, Hole, Moved, frozen, cell_with_int}
pub use Rattle.object_layout.specs.ChunkValue.{ChunkValue}
pub use Rattle.object_layout.specs.Chunks.{chunk_at, place_in, chunk_position, cell_of, next_address, object_of, no_chunk, push_object, put_object}
pub use Rattle.object_layout.specs.Place.{words_in, cell_at, put_cell}
pub use Rattle.object_layout.specs.References.{same_reference}
pub use Rattle.object_layout.specs.declared.word.Addr.{Addr}
pub use Rattle.object_layout.specs.declared.word.Birth.{Birth}
pub use Rattle.path_laws.proofs.FreeReads.{own_reads_go, run_disentangled}
pub use Rattle.path_laws.proofs.Frozen.{frozen_reads_go, run_upward}
pub use Rattle.path_laws.proofs.Objects.{put_rows, made_stays, put_here, put_other}
pub use Rattle.path_laws.proofs.Stored.{made_here, run_stored}
pub use Rattle.path_laws.specs.ReadLaws.{Holds, ReadsFreely}
pub use Rattle.run_ledger.proofs.RunOn.{steps_run_on}
pub use Rattle.run_ledger.proofs.Steps.{goes_tells, steps_last}
pub use Rattle.run_ledger.proofs.below.plain_vec.{contains_from_in, got_within, got_same, same_view, got_past, got_other, none_of, same_truth, got_some}
pub use Rattle.run_ledger.specs.Heaps.{lacks_room, with_allocation, put_last, with_heap_at}
pub use Rattle.run_ledger.specs.Steps.{on_asked, is_open, is_private, owns, touched, has_no_caller, is_frozen_above, is_private_by, is_private_line, is_read, works_alone, allocated_by, task_steps, is_frozen}
pub use Rattle.run_ledger.specs.below.plain_vec.{In}
pub use Rattle.run_ledger.specs.declared.data.Heap.{Heap}
pub use Rattle.run_ledger.specs.declared.data.Ledger.{Ledger}
pub use Rattle.std.proofs.Common.{◌≡◌, ℕ, zero, suc, ◌+◌, ◌-◌, ◌<◌, ◌≤◌, ◌^◌, Bool, true, false, cond, Option, Some, None, List, [], ◌∷◌, ◌++◌, length, map, refl, ap, sym, subst, ◌∙◌, arith, eqb, inl, inr, is_none, slice_get, is_some, slice_set, take, replicate, IsSomeAnd, unwrap_or, ◌*◌, length-set, ℤ, set, ◌⊎◌, length-append, option_copied}
pub use Rattle.std.proofs.Math.Bool.{and-false}
pub use Rattle.std.proofs.Math.Path.{fun_ext}
pub use Rattle.std.proofs.lemmas.Bool.{cases_Bool, false≢true, eqb-true, eqb-false, cases_lt, lt-ltb, both_ways, cases_eq, eq-eqb, ne_eqb, le-leb, lt-leb, le-ltb, and_parts, and_from, leb-true}
pub use Rattle.std.proofs.lemmas.List.{length-map, length-replicate, length_push, length-take-le, append-nil, append_assoc, get_or-set_other, get_or-set_same}
pub use Rattle.std.proofs.lemmas.Option.{same_Some}
pub use Rattle.std.specs.Option.{option_flatten}
pub use Rattle.std.specs.Prelude.{nat_le, nat_lt, pos, ◌==◌, not, ◌&&◌, ◌||◌, ◌≢◌, if◌then◌else◌}
pub use Rattle.task_frames.specs.FramesValue.{ref_of, with_reference, int_of, FramesValue, pushed, IsPopped, with_next, frames_with_int}
pub use Rattle.task_frames.specs.declared.frames.CallFrame.{CallFrame}
pub use Rattle.task_machine.specs.Accounts.{HasReservedUnits, HeapMatchesAccount, IsLastLarge, IsLastSmall, KeepsAccounts, account_after, account_by, large_names, named_by, names_in, small_lists, FollowsSteps}
pub use Rattle.task_machine.specs.Begin.{FitsAsWell, FitsFromThere}
pub use Rattle.task_machine.specs.Calculations.{is_calculation, FrameLeads, CalculatesInFrame, next_with_result, calculation}
pub use Rattle.task_machine.specs.Fits.{HeapIsShaped, FitsNow, IsReachedByRun, after_fresh, unended, Fits, HeapStands, ShowsAbove, StackStands, IsOwnObject, IsShownBy}
pub use Rattle.task_machine.specs.Outline.{blank, outline_after, outline_by, outline_of, outline_of_cell, outline_of_chunk, steps, outline_step}
pub use Rattle.task_machine.specs.Place.{Places, NamesAddress, birth_of, ObjectStands, name_of, FrameStands, FramesStand, AreAt}
pub use Rattle.task_machine.specs.Plan.{planned, allocating, made_at, new_object, or_shared, packed_object, planned_other, taken, with_top, counts_ints, counts_refs, own_or_shown, reads_int, reads_ref, shown_of, own_in, moved, with_result_of, popped_to, spot_at, with_own, private_written, popped, with_seen, plan_unless_frozen}
pub use Rattle.task_machine.specs.Ready.{FitsSome, IsSafe, HasCopiedRegisters, PlanIsReady}
pub use Rattle.task_machine.specs.Run.{RunsSteps, RunsPrivately, StillFits, IsStepPlan, KeepsRest, next_plan, planned_line, IsCallInstr, IsCallLine, IsCallPlan, StandsAtCall, PausesBy, Ran, Pauses, is_due_after, is_in_need_after, ComesOf}
pub use Rattle.task_machine.specs.Steps.{lacks_place, Agrees, TakesStep, Stops, is_part_due, is_part_in_need}
pub use Rattle.task_machine.specs.declared.part.Begun.{Begun}
pub use Rattle.task_machine.specs.declared.part.Paused.{Paused}
pub use Rattle.task_machine.specs.declared.part.Paused.TheVariants.{Due, NeedChunk, Shared, Spent}
pub use Rattle.task_machine.specs.declared.part.Private.{Private}
pub use Rattle.task_machine.specs.declared.plan.Plan.{Plan}
pub use Rattle.task_machine.specs.declared.plan.Plan.TheVariants.{Pause, New, Calculate, SetInt, SetReference, Return, WriteReference, WriteInt, Swap}
pub use Rattle.task_machine.specs.declared.plan.Spot.{Spot}
