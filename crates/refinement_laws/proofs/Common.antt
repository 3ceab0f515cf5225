-- The names of lower crates and of the specifications that these proofs use. Declares nothing.
pub use Rattle.path_laws.proofs.Leaves.{waiting_stops, can_going}
pub use Rattle.refinement.proofs.below.hh_model.{runs_idle, running_tells, at_in, names_run, in_registers, runs_live, runs_is, runs_tell}
pub use Rattle.refinement.proofs.below.ledger_step_laws.{rested_back, private_alone, with_off, rested_view, worker_step, leaf_alone, alone_along, with_at, heap_then, alike_steps, rested_changes, rested_worker, rested_sound, end_changes, SameOf, rested_knows, legal_alive, steps_limit, steps_end, steps_off, steps_know, steps_alone_all, steps_same, rested_alone, rested_same, machine_alone, same_tasks, both_rested, private_on, steps_go, is_store, is_swap, is_number, rest_heaps, steps_worker, root_alone, took_takes, sweep_changes, legal_knows, legal_idle, private_kin, steps_kin, waits_rest, private_end}
pub use Rattle.refinement.proofs.below.object_layout.{none_from}
pub use Rattle.refinement.proofs.below.plain_vec.{in_append_right, none_some, got_in, in_got, none_of, got_same, none_is, got_other}
pub use Rattle.refinement.proofs.below.run_ledger.{same_from_is_name, is_name_itself, heap_machine, none_unless, entry_tells, legal_sound, accepted_on, heap_of_task, running_at, task_steps_sound, wait_tells, heap_view, task_step_machine, steps_last, entry_sound, entries_use, none_holding, tasks_are_out_once, task_steps_steps, same_use, allocated_end, moved_to_end, held_is, is_held}
pub use Rattle.refinement.proofs.below.walk_laws.{reached_more, reached_start, reached_within}
pub use Rattle.refinement.proofs.changes.Alone.{belongings_own, belongings_kept, steps_alone}
pub use Rattle.refinement.proofs.changes.Finish.{finished, belongings_alike}
pub use Rattle.refinement.proofs.changes.Fork.{forked_stands}
pub use Rattle.refinement.proofs.changes.Giving.{gives_kept}
pub use Rattle.refinement.proofs.changes.Join.{joined_stands}
pub use Rattle.refinement.proofs.changes.Lifts.{alone_too, forks_too, forks_with, joins_too, joins_with, stores_too, stores_with, numbers_too, numbers_with, can_too, ends_too, ends_with}
pub use Rattle.refinement.proofs.changes.Numbers.{numbered}
pub use Rattle.refinement.proofs.changes.Own.{stepped, place_own}
pub use Rattle.refinement.proofs.changes.Release.{released}
pub use Rattle.refinement.proofs.changes.Renew.{renewed}
pub use Rattle.refinement.proofs.changes.Same.{source_alone}
pub use Rattle.refinement.proofs.changes.Steady.{steady_same}
pub use Rattle.refinement.proofs.changes.Store.{stored}
pub use Rattle.refinement.proofs.changes.Sweep.{is_kept, refers, snapshot_is, swept}
pub use Rattle.refinement.proofs.changes.Takes.{ran_fits, took_fits, ran_stands}
pub use Rattle.refinement.proofs.changes.UpdateOneTask.{off_belongings, at_belongings, with_both, heap_with, keeps_with, moves_with}
pub use Rattle.refinement.proofs.notes.Notes.{notes_stay, notes_with, same_whole, moves_whole, numbers_whole, no_notes, fork_notes, store_notes, number_name, number_at, number_refs}
pub use Rattle.refinement.proofs.notes.Rooted.{noted_by, rewritten_at, root_apart, root_by, root_kept, root_same, root_owner}
pub use Rattle.refinement.proofs.notes.Roots.{reached_both, frame_name, name_at}
pub use Rattle.refinement.proofs.objects.Carry.{object_kept, task_kept, object_both, task_both, field_of}
pub use Rattle.refinement.proofs.objects.LaidOut.{none_laid}
pub use Rattle.refinement.proofs.objects.Mapped.{to_mapped}
pub use Rattle.refinement.proofs.objects.Members.{in_chunk, in_objects, held_object, lies_in, object_held}
pub use Rattle.refinement.specs.LeafCollectionBegins.{AreRoots, IsRememberedRoot, IsReachedAt, LeadsAt, StartsAt}
pub use Rattle.refinement.specs.Changes.{KeepsJust, Moves, ForksBelongings, JoinsBelongings, StoresAt, StoresNumberAt, WritesAt, with_int_field, EndsBelongings, SameBut, SameObjects, HasResult, StepsInBelongings, gone_on, BelongingsAreRead}
pub use Rattle.refinement.specs.Copies.{PartFits, part_before, CopyFits, EndsAt}
pub use Rattle.refinement.specs.Counts.{IsQuiet, IsMarked, SameCounts, TakesNode, AsksUnits, CountsGo}
pub use Rattle.refinement.specs.EntryMakes.{Stores, EntryMakes, taken_by, StoresInto, BelongingsAfterStore, StepsTo, BelongingsAfter}
pub use Rattle.refinement.specs.Fits.{with_belongings, Part, FitsAt, ahead, part_for, FitsAfterRun}
pub use Rattle.refinement.specs.Frames.{RunsWithPart, AreOut, NotOf, AllFitAt, with_all_belongings, all_ahead, IsSteady, Beside, EndsBeside}
pub use Rattle.refinement.specs.Layout.{AreLaidOut}
pub use Rattle.refinement.specs.Marks.{StoreMarks, Marks}
pub use Rattle.refinement.specs.Memory.{Belongings, In, Memory, object_name, objects, objects_of_chunks, put_at, rewritten, sources, Lies, shown_at, copied_object, rewritten_belongings}
pub use Rattle.refinement.specs.RanCounts.{node_then, NodesStay, NodeGoes, NodesFork, NodesJoin, TasksOutStay, LetsGo, RanCounts}
pub use Rattle.refinement.specs.ReadsReference.{FramesAreRead, HoldsRead, IsModelObject, TaskIsRead, ReadsReference, FrameIsRead, AllRead}
pub use Rattle.refinement.specs.Since.{NotedAt, SameNotes, AllNoted, NotesStay, Noting, ForksNotes, JoinsNotes, OthersNotes, StoresNotes, Since, kept, MarksOn}
pub use Rattle.refinement.specs.MemoryStands.{MemoryStands, LiesWithOwner, GivesLevel, BelongingsStand, IsSource, AboveIsShown, small_chunks, large_chunks}
pub use Rattle.refinement.specs.Whole.{BegunStands, LeafCollectionBegins, handed, BegunBy, StandsFor, TreeCounts, TreeCountsStand, state_by, StandsForAll, by_end}
pub use Rattle.refinement.specs.Worker.{WorkersFit, IsBy, WorkerFits}
pub use Rattle.refinement.specs.below.heap_tree.{TaskNode, Ready}
pub use Rattle.refinement.specs.below.hh_lang.{Instr, Set, Mov, Movr, Nil, Calc, Same, Jmp, Jz, Newm, Pack, Getr, Geti, Putr, Puti, Cntr, Cnti, Freeze, Cas, Call, Par, Ret, Out, ProgramText, IsProgram}
pub use Rattle.refinement.specs.below.hh_model.{Name, Object, MachineState, TaskStatus, Running, Waiting, Ended, Joined, Task, is_waiting, is_joined, is_over, waits, names_from, registers, Frame, ref_in, object_at, row_of, task_names, is_on_path, owner_of, goes_on, is_running, can_step, asked, int_in, onward, place_in, runs, IsStored, Closed, Done, Trapped, Entangled, root, parents, parent_of, result_of, step}
pub use Rattle.refinement.specs.below.ledger_step_laws.{Rests, StepsAlone, ChangesHeap, TasksCanJoin, ForksTask, JoinsTasks, StoresOne, StoresNumber, rested, EndsTask, WritesOther, LastKind, Private, Reading, Writing, Printing, Forking, Ending, Joining, Finishing, Halting, IsOfKind, GoesOn, Splits, RunsPrivateSteps, own, AlikeFor, Leaves, ChangesByWrite, LedgerIsKnown, WritesOne, ArePrivate, aside, WorkerTakes, SameTasks, Halts, stepped_by, onward_with, LastStepEndsRun, EndsLast}
pub use Rattle.refinement.specs.below.object_layout.{Addr, Located, same_address}
pub use Rattle.refinement.specs.below.plain_vec.{option_is}
pub use Rattle.refinement.specs.below.remembered_set.{RefField}
pub use Rattle.refinement.specs.below.run_ledger.{Heap, Ledger, heap_of, within, SoundLedger, held_in, marked_in, is_name, let_go, or_fresh, task_steps, heap_at, InHeaps, SomeHeapHas, heap_names, snapshot_at, touched, collected, with_heap, Sound, after, is_out, ledger_of, collecting, Pool, chunk_words, is_small_size, in_use, on_asked, after_kind, chunk_units, with_chunk, kind_refusal, is_ready, swept_heap, refusal, is_legal, take_of, with_heap_at, out_from, ChunkGoes, UseGoes, Machine, opening, is_legal_from, after_all, is_private, allocated_in, settled, stepped_to, task_step}
pub use Rattle.refinement.specs.below.run_trace.{SettingsValue, EntryValue, End, Kind, Took, Ran, Chunk, Begin, PutOff, Mark, More, Sweep, Fuel}
pub use Rattle.refinement.specs.below.task_frames.{CallFrame, ref_of, led_frame}
pub use Rattle.refinement.specs.below.task_machine.{Begun}
pub use Rattle.refinement_laws.specs.CopyLaws.{MarksAreAll, CopiesEnd}
pub use Rattle.refinement_laws.specs.EntryLaws.{DoneReturnsAll, TookStandsFor, QuietStandsFor, SweepsStandFor, EndsStandFor, RanStandsFor, TasksOutAreTold, WholeStands, WholeNotes}
pub use Rattle.refinement_laws.specs.Now.{IsReachedNow, StartsNow}
pub use Rattle.refinement_laws.specs.WorkerLaws.{AllFitTogether, QuietFits, EndsFit, RanFits, FramesGo, NumbersGo, TookFits, RanLeaves, TookLeaves, QuietLeaves, SweepsLeave, EndsLeave}
pub use Rattle.std.proofs.Common.{◌≡◌, ◌⊎◌, ℕ, ℤ, Bool, true, false, ◌++◌, Option, Some, None, List, length, slice_get, inl, inr, refl, ap, ap₂, sym, subst, ◌∙◌, ◌&&◌, not, ◌-◌, ◌≤◌, suc, cond, arith, [], ◌∷◌, unwrap_or, ◌+◌, ◌↔◌, map, is_some, pos, is_none, nat_lt, slice_set, option_map, zero, replicate}
pub use Rattle.std.proofs.lemmas.Bool.{both_ways, cases_eq, false≢true, and_parts, and_from}
pub use Rattle.std.proofs.lemmas.Option.{same_Some}
pub use Rattle.std.specs.List.{AllByRecursion}
