-- The names of lower crates and of the specifications that these proofs use. Declares nothing.
pub use Rattle.core_invariant.proofs.BeforeTheEnd.{steps_now, part_idle, end_now, fits_now, stands_now}
pub use Rattle.core_invariant.proofs.CausesTold.{refused_is}
pub use Rattle.core_invariant.proofs.CellsRead.{object_seen, seen_object}
pub use Rattle.core_invariant.proofs.CollectionUnderWay.{steady, none_begun, at_part, account_idle}
pub use Rattle.core_invariant.proofs.EntryMade.{entry_on, still_goes, same_form, accounts_are, ChangesRest, IsWell, changed_form, free_before, rest_off, rest_then, task_is_out}
pub use Rattle.core_invariant.proofs.HeapCounts.{large_are, small_names}
pub use Rattle.core_invariant.proofs.HeapLaidOut.{place_there, content_of, inside_from, laid_from}
pub use Rattle.core_invariant.proofs.NextStepAsks.{asks_is}
pub use Rattle.core_invariant.proofs.OutlineKept.{run_keeps_places}
pub use Rattle.core_invariant.proofs.Packs.{packs_few, IsFew, PacksFew}
pub use Rattle.core_invariant.proofs.PlacedForm.{Formed, formed_tidy, IsFormed, formed_placed}
pub use Rattle.core_invariant.proofs.StepAccounts.{After, after_none, after_both, after_one, step_is, hold_same}
pub use Rattle.core_invariant.proofs.StepsEntered.{goes, end_by, beyond_machine, status}
pub use Rattle.core_invariant.proofs.StepsMade.{MakesSteps, ran_to, steps_others, steps_part, steps_world}
pub use Rattle.core_invariant.proofs.TaskTaken.{lets_go, made_by, node_by, node_off}
pub use Rattle.core_invariant.proofs.UnitsMeasured.{all_kept}
pub use Rattle.core_invariant.proofs.below.hh_model.{running_tells, step_taken, last_there, runs_is, start_is_fork_join_state, step_is_fork_join_state, numbered}
pub use Rattle.core_invariant.proofs.below.leaf_heap.{are_near}
pub use Rattle.core_invariant.proofs.below.ledger_step_laws.{rested_worker, steps_know, entry_runs, heap_then, rested_alone, steps_alone_all, with_at, rested_sound, rested_view, alone_along, alone_back}
pub use Rattle.core_invariant.proofs.below.object_layout.{chunk_there}
pub use Rattle.core_invariant.proofs.below.plain_vec.{in_map, none_some, none_of, got_same, got_within, some_none, got_some}
pub use Rattle.core_invariant.proofs.below.refinement.{in_chunk, stepped, at_belongings, off_belongings}
pub use Rattle.core_invariant.proofs.below.refinement_laws.{aside_is, numbers_go, done_returns_all}
pub use Rattle.core_invariant.proofs.below.run_ledger.{ran_tells, entry_tells, task_step_machine, steps_last, heap_machine, SoundLedger, task_steps_more, task_steps_sound, held_is, placed_since}
pub use Rattle.core_invariant.proofs.below.task_machine.{some_next, some_safe, outline_at, outline_size, outline_words, outline_apart, outline_current, outline_kept, words_by, has_line, same_line, steps_more, allocated_account, is_alone, step_by, x, other_at, own_object, Own, ints_index, nil_effect, object_effect, owned_here, reads, refs_index, does, int_here, ref_here}
pub use Rattle.core_invariant.specs.Again.{KeepsPlaces}
pub use Rattle.core_invariant.specs.Causes.{first_cause, or_else, task_asked}
pub use Rattle.core_invariant.specs.Entered.{refused, Enters}
pub use Rattle.core_invariant.specs.WorkerPartFits.{WorkerPartFits, belongings_of_part, part_of}
pub use Rattle.core_invariant.specs.Links.{above_of, FitsFirst}
pub use Rattle.core_invariant.specs.Measured.{IsMeasured}
pub use Rattle.core_invariant.specs.Next.{is_beyond, is_beyond_by, is_beyond_line, is_joint, ending, line_asks, next_line, instr_asks, on_own, on_own_cell, unwritten}
pub use Rattle.core_invariant.specs.Objects.{chunk_of, chunks_of}
pub use Rattle.core_invariant.specs.SharedValue.{SharedValue, accounts, value_of, belongings_in, belongings_of, tree_counts_of}
pub use Rattle.core_invariant.specs.Stands.{IsSharedValue, HeapForm}
pub use Rattle.core_invariant.specs.below.chunk_pool.{Slot, slot_at}
pub use Rattle.core_invariant.specs.below.heap_tree.{depth_by, depth_in, through, with_state, Ended}
pub use Rattle.core_invariant.specs.below.hh_lang.{Instr, Ret, Line, ProgramText, Out, Par, Set, Mov, Movr, Nil, Calc, Same, Jmp, Jz, Newm, Pack, Getr, Geti, Putr, Puti, Cntr, Cnti, Freeze, Cas, Call, Operator}
pub use Rattle.core_invariant.specs.below.hh_model.{End, Done, Trapped, MachineState, Task, Trap, ended_by, fetched, step, Name, row_of, asked, is_joined, is_over, runs, effect, can_step, follow, goes_on, is_running, is_waiting, parent_of, parents, setting, Running, Frame, Object, Div, Range, Frozen, Size, Depth, Effect, Goes, Calls, calculated, counts_in, int_in, made, onward, or_trap, place_in, put_object, read_effect, ref_in, same_name, unless_frozen, with_int, words_for, entry_frame, frame_limit, last_of, owner_of, returned_to, with_task, object_at, ended_task, last_return, result_of, run, run_from, start, MakesChildren, TasksStay, AreLow, IsForkJoinState, words_asked}
pub use Rattle.core_invariant.specs.below.leaf_heap.{AreTidy, CellsFitInChunks, IsTidy, LeafHeapValue, place_for, with_object_placed, units}
pub use Rattle.core_invariant.specs.below.ledger_step_laws.{Rests, own, rested, LastStepEndsRun, EndsLast, GoesOn, IsOfKind, LastKind, Reading, Writing, Printing, Forking, Ending, Joining, Finishing, Halting, LedgerIsKnown, RunsPrivateSteps, Splits, ArePrivate, Halts, JustReads, ReadsOther, WritesOther, ChangesByWrite, StepsAlone, LastStepPrints}
pub use Rattle.core_invariant.specs.below.object_layout.{Addr, ChunkValue, chunk_at, no_chunk, words_in, IsObject, Born, Cell, Hole, Mark, Moved, moved_to, size_of, Located, located_by, objects_from, object_of, cell_of, located, LiesThere}
pub use Rattle.core_invariant.specs.below.plain_vec.{ReservedVecValue, option_is}
pub use Rattle.core_invariant.specs.below.refinement.{Belongings, In, Lies, Memory, objects, objects_of_chunks, StepsInBelongings, PartFits, with_belongings, BelongingsStand, LiesWithOwner, MemoryStands, BegunBy, HoldsLarge, words, BelongingsAfter, WorkerFits, ahead, StepsTo, Chunk, object_name, BelongingsAreRead, AreLaidOut, AllRead, FrameIsRead, FramesAreRead, HoldsRead, IsModelObject, TaskIsRead, ChunksHaveNames, handed, EndsBelongings, part_for, EntryMakes, taken_by, Marks, NodeGoes, RanCounts, OthersNotes, StandsFor, as_node}
pub use Rattle.core_invariant.specs.below.run_ledger.{has_no_caller, owns, touched, Ledger, heap_of, task_steps, is_private, most_steps, standing, after, long_at, Refused, Collecting, Long, lacks_room, is_due, is_in_need, on_asked, task_step, kind_refusal, refused_if, refused_unless, Heap, or_fresh, is_open, let_go, RunEnd, Machine, NotOut, is_fuel, is_out, AsksAtMost}
pub use Rattle.core_invariant.specs.below.run_trace.{EntryValue, private_limit, SettingsValue, field_limit, Kind, Took, Begin, PutOff, More, Sweep, Fuel}
pub use Rattle.core_invariant.specs.below.task_frames.{with_next, FramesValue, int_of, ref_of, CallFrame}
pub use Rattle.core_invariant.specs.below.task_machine.{Private, FitsSome, IsSafe, HeapMatchesAccount, KeepsAccounts, FitsNow, Places, KeepsRest, Ran, HeapIsShaped, blank, outline_after, outline_by, outline_of, outline_of_cell, outline_of_chunk, steps, Paused, unended, Pauses, PausesBy, RanBy, account_after, account_by, NamesAddress, AreAt, FrameStands, FramesStand, birth_of, RunsSteps}
pub use Rattle.core_invariant.specs.below.task_slots.{ParkedTask}
pub use Rattle.core_invariant.specs.declared.next_step.Ending.TheVariants.{Beyond, Prints, Returns, Traps}
pub use Rattle.journal_laws.proofs.Asked.{asked_at_line, counts_few}
pub use Rattle.journal_laws.proofs.Since.{limit_small}
pub use Rattle.std.proofs.Common.{◌≡◌, ℕ, ℤ, suc, ◌+◌, ◌<◌, ◌≤◌, ◌^◌, ◌||◌, ◌&&◌, arith, not, true, Option, Some, None, [], slice_get, is_none, is_some, length, refl, ap, ap₂, sym, subst, ◌∙◌, ◌-◌, ◌*◌, ◌/◌, min, ne_eqb, inr, zero, pos, false, List, ◌∷◌, map, replicate, All, inl, ◌⊎◌, cond, nat_le, le-leb, ◌==◌, eq-eqb, Bool, ◌++◌, slice_set, unwrap_or, nat_lt, length-set, option_map, ◌≢◌}
pub use Rattle.std.proofs.Math.Bool.{or-true}
pub use Rattle.std.proofs.Math.Path.{fun_ext}
pub use Rattle.std.proofs.lemmas.Bool.{or_left, both_ways, false≢true, cases_eq, cond-false, cond-true, cases_lt, and_right, leb-false}
pub use Rattle.std.proofs.lemmas.List.{length-map, length-replicate}
pub use Rattle.std.proofs.lemmas.List.Elements.{All-from_get_or, All-get_or, All-cons, All-head, All-map, All-nil, All-tail, All-weaker}
pub use Rattle.std.proofs.lemmas.Option.{same_Some}
pub use Rattle.std.specs.Option.{option_flatten}
pub use Rattle.step_commit.specs.Alone.{FinishesAlone, GoesAlone, HaltsAlone, IsShared, EndingTells, alone_entry, machine_after, then_accounts, SaysOf, TellsOf, ended_rest}
