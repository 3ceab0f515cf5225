-- The names of lower crates and of the specifications that these proofs use. Declares nothing.
pub use Rattle.hh_lang.specs.Form.{ProgramText, IsProgram}
pub use Rattle.hh_lang.specs.declared.instr.Instr.{Instr}
pub use Rattle.hh_lang.specs.declared.instr.Instr.TheVariants.{Set, Mov, Movr, Nil, Calc, Same, Jmp, Jz, Newm, Pack, Getr, Geti, Putr, Puti, Cntr, Cnti, Freeze, Cas, Call, Par, Ret, Out}
pub use Rattle.hh_lang.specs.declared.program.Line.{Line}
pub use Rattle.hh_model.proofs.Carried.{at_in, named_from_in}
pub use Rattle.hh_model.proofs.Changes.{place_within}
pub use Rattle.hh_model.proofs.Climbs.{owner_here}
pub use Rattle.hh_model.proofs.Closed.{asked_at, waits_is}
pub use Rattle.hh_model.proofs.Counts.{start_counted, rows_from, run_on}
pub use Rattle.hh_model.proofs.ForkJoinStates.{seen, start_is_fork_join_state, IsForkJoinState, step_is_fork_join_state}
pub use Rattle.hh_model.proofs.Lists.{last_there}
pub use Rattle.hh_model.proofs.Next.{always_next}
pub use Rattle.hh_model.proofs.Paths.{AreLow, path_child, path_same, owner_same, owner_joins}
pub use Rattle.hh_model.proofs.Root.{OneRoot, one_root, run_root}
pub use Rattle.hh_model.proofs.Runs.{running_tells, grown_at, grown_left, grown_right, grown_other, grown_past, grown_view, grown_view_front, three_top, three_left, three_right, three_other, three_view, drest, parr, ended_tells, wp, waiting, joins_in}
pub use Rattle.hh_model.proofs.Steps.{runs_is, names_run, in_registers, ended_stops, step_cases}
pub use Rattle.hh_model.proofs.Taken.{can_runs, step_taken, step_idle}
pub use Rattle.hh_model.proofs.Tree.{not_above, owner_not_joined}
pub use Rattle.hh_model.specs.Closed.{Closed}
pub use Rattle.hh_model.specs.Effect.{object_at, put_object, row_of, Effect, Goes, Stops, Traps, StepContext, effect, made, counts_in, int_in, ref_in, or_trap, with_object, read_effect, calculated, place_in, same_name, onward, with_ref, with_int, Prints, Calls, Forks, Returns}
pub use Rattle.hh_model.specs.Names.{refs_of, task_names, refs_at, registers, words_asked, words_for, names_from}
pub use Rattle.hh_model.specs.Precedence.{precedes}
pub use Rattle.hh_model.specs.Step.{step, can_step, is_running, is_waiting, is_joined, is_over, waits, path_in, owner_of, owner_in, parents, joined, parent_of, asked, is_on_path, goes_on, strand_of, setting, fetched, follow, returned_to, last_of, front_of, back_in, entry_frame, with_task, ended_by, frame_limit, runs, asked_by, asked_line, is_left, path_by, through, child, joined_task, resumed, join_of, run, start, last_return, child_ended_by, or_same, depth_limit, sibling, result_at, result_in, result_of, ended_task, strand, edge, run_from}
pub use Rattle.hh_model.specs.Store.{IsStored}
pub use Rattle.hh_model.specs.declared.data.Edge.{Edge}
pub use Rattle.hh_model.specs.declared.data.End.{End}
pub use Rattle.hh_model.specs.declared.data.End.TheVariants.{Trapped, Entangled, Done}
pub use Rattle.hh_model.specs.declared.data.Frame.{Frame}
pub use Rattle.hh_model.specs.declared.data.MachineState.{MachineState}
pub use Rattle.hh_model.specs.declared.data.Name.{Name}
pub use Rattle.hh_model.specs.declared.data.Object.{Object}
pub use Rattle.hh_model.specs.declared.data.Task.{Task}
pub use Rattle.hh_model.specs.declared.data.TaskStatus.{TaskStatus}
pub use Rattle.hh_model.specs.declared.data.TaskStatus.TheVariants.{Running, Waiting, Joined, Ended}
pub use Rattle.hh_model.specs.declared.data.Trap.{Trap}
pub use Rattle.hh_model.specs.declared.data.Trap.TheVariants.{Range, Frozen, Div, Size, Depth}
pub use Rattle.ledger_step_laws.specs.Accounts.{own, rested, ArePrivate, StepsAlone, SameTree, AlikeFor, LedgerIsKnown, ChangesHeap, WorkerTakes, SameTasks, Rests, WritesOne, Leaves}
pub use Rattle.ledger_step_laws.specs.Kinds.{ForksTask, JoinsTasks, EndsTask, TasksCanJoin, StoresOne, StoresNumber}
pub use Rattle.ledger_step_laws.specs.LastStepCases.{Splits, RunsPrivateSteps, LastKind, Private, Reading, Writing, Printing, Forking, Ending, Joining, Finishing, Halting, IsOfKind, GoesOn, KindTellsPrivate, IdleRest, OnlyAskersReserve, TaskIsAt, JustReads, ChangesByWrite, stepped_by, LastStepEndsRun, Halts, WritesOther}
pub use Rattle.path_laws.proofs.FreeReads.{own_reads}
pub use Rattle.path_laws.proofs.Leaves.{can_going, waiting_stops}
pub use Rattle.path_laws.proofs.Objects.{put_rows, put_here}
pub use Rattle.path_laws.proofs.Stored.{stored_step, run_stored}
pub use Rattle.plain_vec.proofs.Members.{got_same, got_other, same_view, view_step, got_within, In, got_front, got_back, got_past}
pub use Rattle.plain_vec.proofs.Options.{or_false}
pub use Rattle.plain_vec.proofs.Places.{none_set, got_none, got_some}
pub use Rattle.plain_vec.specs.Options.{option_is}
pub use Rattle.run_ledger.proofs.Booked.{BookedLedger, task_steps_booked}
pub use Rattle.run_ledger.proofs.Frames.{heap_view, held_is}
pub use Rattle.run_ledger.proofs.Going.{machine_goes_on}
pub use Rattle.run_ledger.proofs.Holders.{tasks_are_out_once, placed_worker}
pub use Rattle.run_ledger.proofs.Journals.{legal_sound, none_unless, out_tells, entry_tells, entry_sound, accepted_on}
pub use Rattle.run_ledger.proofs.Machine.{task_step_machine, heap_machine, machine_is_run, kind_machine}
pub use Rattle.run_ledger.proofs.Reached.{once_by}
pub use Rattle.run_ledger.proofs.Sound.{renewed}
pub use Rattle.run_ledger.proofs.Space.{legal_booked}
pub use Rattle.run_ledger.proofs.Steps.{SoundAt, task_step_sound, step_leaves, steps_last, task_steps_sound}
pub use Rattle.run_ledger.proofs.Stocks.{legal_stocked}
pub use Rattle.run_ledger.specs.Entries.{refusal, kind_refusal, after, is_out, long_at}
pub use Rattle.run_ledger.specs.Heaps.{or_fresh, with_heap, with_heap_at, with_allocation, let_go, lacks_room, heap_of, held, held_in, roots_of, frames_of, is_proper_ancestor, fresh, within, swept_heap, collected, forked_heap, merged, emptied, words_at, words_sum, chunk_words, room_behind}
pub use Rattle.run_ledger.specs.Journals.{ledger_of, is_legal, tasks_of}
pub use Rattle.run_ledger.specs.Reachable.{once_more, reached_by, reached}
pub use Rattle.run_ledger.specs.Sound.{SoundLedger, collecting}
pub use Rattle.run_ledger.specs.Steps.{allocated_by, allocated_in, moved_on, moved_to, settled, stepped_to, task_step, task_steps, on_asked, is_private, is_due, is_in_need, touched, is_open, owns, works_alone, is_read, is_frozen, is_frozen_above, is_private_by, is_private_line, at_fork, join_heaps, has_no_caller, standing, most_steps}
pub use Rattle.run_ledger.specs.declared.data.Heap.{Heap}
pub use Rattle.run_ledger.specs.declared.data.Ledger.{Ledger}
pub use Rattle.run_ledger.specs.declared.data.RunEnd.TheVariants.{Machine}
pub use Rattle.run_trace.specs.Entry.{EntryValue}
pub use Rattle.run_trace.specs.Settings.{SettingsValue, field_limit}
pub use Rattle.run_trace.specs.declared.entry.Kind.TheVariants.{Ran}
pub use Rattle.std.proofs.Common.{is_some, ◌≡◌, ℕ, zero, suc, ◌+◌, Bool, true, false, cond, Option, Some, None, List, [], ◌∷◌, ◌++◌, length, slice_get, slice_set, inl, inr, refl, ap, ap₂, sym, subst, ◌∙◌, nat_le, ◌⊎◌, arith, pos, ◌==◌, ◌&&◌, ◌||◌, ◌<◌, not, replicate, is_none, nat_lt, length-set, ℤ, ◌≤◌, length-append, map, filter, unwrap_or, ◌-◌, ◌%◌, min}
pub use Rattle.std.proofs.Math.Bool.{or-false}
pub use Rattle.std.proofs.Math.Nat.{min-le_right}
pub use Rattle.std.proofs.Math.Path.{fun_ext}
pub use Rattle.std.proofs.lemmas.Bool.{false≢true, cases_eq, cond-true, cond-false, and_parts, and_from, eqb-true, eq-eqb, or_cases, or_left, or_right, not-true, cases_lt, both_ways, eqb-false, leb-true}
pub use Rattle.std.proofs.lemmas.Option.{same_Some, none-some}
pub use Rattle.std.specs.List.{flat_map, fold}
pub use Rattle.std.specs.Option.{option_flatten}
