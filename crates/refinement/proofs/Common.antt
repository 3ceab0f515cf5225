-- The names of lower crates and of the specifications that these proofs use. Declares nothing.
pub use Rattle.hh_model.proofs.Carried.{named_from_in, at_in, in_from_named}
pub use Rattle.hh_model.proofs.Paths.{path_itself, path_child, path_parent, path_through, on_one_path}
pub use Rattle.hh_model.proofs.Runs.{runs_idle, runs_live, waiting, joins_in}
pub use Rattle.hh_model.proofs.Steps.{names_run, in_registers}
pub use Rattle.hh_model.proofs.Tree.{live_up}
pub use Rattle.hh_model.specs.Effect.{row_of, object_at, onward, ref_in, int_in}
pub use Rattle.hh_model.specs.Names.{names_from, task_names, refs_at, refs_of, names_of_references, registers}
pub use Rattle.hh_model.specs.Step.{is_joined, is_waiting, is_on_path, parents, result_of, child, is_over, waits, joined, resumed, owner_of, parent_of}
pub use Rattle.hh_model.specs.declared.data.Frame.{Frame}
pub use Rattle.hh_model.specs.declared.data.MachineState.{MachineState}
pub use Rattle.hh_model.specs.declared.data.Name.{Name}
pub use Rattle.hh_model.specs.declared.data.Object.{Object}
pub use Rattle.hh_model.specs.declared.data.Task.{Task}
pub use Rattle.hh_model.specs.declared.data.TaskStatus.{TaskStatus}
pub use Rattle.hh_model.specs.declared.data.TaskStatus.TheVariants.{Ended, Running, Waiting, Joined}
pub use Rattle.ledger_step_laws.proofs.Ahead.{heap_then, with_at, with_off}
pub use Rattle.ledger_step_laws.proofs.Alone.{tree_beside}
pub use Rattle.ledger_step_laws.proofs.Entries.{took_takes}
pub use Rattle.ledger_step_laws.proofs.Rested.{name_cases}
pub use Rattle.ledger_step_laws.proofs.Tree.{own_live, leaf_alone, holder_live}
pub use Rattle.ledger_step_laws.specs.Accounts.{own, Rests, StepsAlone, ChangesHeap, WritesOne, AlikeFor, WorkerTakes, SameTasks, rested}
pub use Rattle.ledger_step_laws.specs.Kinds.{EndsTask, ForksTask, JoinsTasks, TasksCanJoin, StoresOne, StoresNumber, onward_with}
pub use Rattle.mark_sweep_gc.proofs.GoingOn.{marking_goes_on}
pub use Rattle.mark_sweep_gc.specs.MarkingValue.{IsMarking, MarkingValue}
pub use Rattle.mark_sweep_gc.specs.Snapshot.{Fork, IsInSnapshot, MarkStarts}
pub use Rattle.object_layout.proofs.Distinct.{is_same, same_is}
pub use Rattle.object_layout.specs.Chunks.{same_address}
pub use Rattle.object_layout.specs.Graph.{HasObjectAt, RefersTo}
pub use Rattle.object_layout.specs.Objects.{Located}
pub use Rattle.object_layout.specs.declared.word.Addr.{Addr}
pub use Rattle.refinement.specs.Changes.{Moves, EndsBelongings, StepsInBelongings, ForksBelongings, advanced, entered_frames, child_belongings, JoinsBelongings, with_results, top_with_results, WritesAt, StoresAt, StoresNumberAt, with_int_field, BelongingsAreRead, Allocates, SameBut, SameObjects, KeepsJust, with_field, gone_on, WritesWell}
pub use Rattle.refinement.specs.Fits.{with_belongings, Part, FitsAt, part_for}
pub use Rattle.refinement.specs.Frames.{Collects, IsSteady}
pub use Rattle.refinement.specs.Layout.{AreLaidOut, words, DontOverlap, HoldsLarge, reserved_chunks}
pub use Rattle.refinement.specs.LeafCollectionBegins.{IsReachedAt, AreRoots, IsRememberedRoot, StartsAt, LeadsAt}
pub use Rattle.refinement.specs.Marking.{CanGoOnMarking, MarkedBy}
pub use Rattle.refinement.specs.Memory.{Belongings, Memory, In, object_name, objects, objects_of_chunks, sources, Lies, copied_object, rewritten, rewritten_belongings, Chunk, frozen_chunk, frozen_chunks, no_belongings, mapped_chunk, put_at, shown_at, is_source, rewritten_refs, chunk_among, seen_at, seen_in, as_shown, mapped_belongings}
pub use Rattle.refinement.specs.MemoryStands.{LiesWithOwner, ChunksHaveNames, BelongingsStand, MemoryStands, IsSource, small_chunks, large_chunks, AboveIsShown, GivesLevel, LevelHasChunk, chunk_names}
pub use Rattle.refinement.specs.ReadsReference.{IsModelObject, FramesAreRead, HoldsRead, TaskIsRead, ReadsReference, FrameIsRead, AllRead}
pub use Rattle.refinement.specs.Since.{kept, Since, NotedAt, SameNotes, NoNotes, StaysWhole, KeepsOldValue}
pub use Rattle.remembered_set.specs.declared.remembered.RefField.{RefField}
pub use Rattle.run_ledger.proofs.Machine.{heap_machine}
pub use Rattle.run_ledger.proofs.Reached.{reached_root, reached_is_walks}
pub use Rattle.run_ledger.proofs.Sound.{in_held, held_keeps}
pub use Rattle.run_ledger.proofs.below.plain_vec.{got_in, in_append_left, in_append_right, in_append_cases, in_from_any, got_cases, contains_from_in, in_from_contains, in_kept, in_from_kept, in_flat, got_other, any_from_in, map_in, each_in, in_map, in_got}
pub use Rattle.run_ledger.proofs.below.walk_laws.{reached_more, reached_start, reached_within}
pub use Rattle.run_ledger.specs.Heaps.{heap_of, or_fresh, fresh, emptied, merged, forked_heap, with_heap, let_go, heap_at, within, held, held_in, frames_of, roots_of, is_proper_ancestor, units}
pub use Rattle.run_ledger.specs.Reachable.{StartsWithin, LeadsWithin}
pub use Rattle.run_ledger.specs.Sound.{SoundLedger, Spares, survivors_at, collecting, InHeaps, SomeHeapHas, snapshot_at, heap_names}
pub use Rattle.run_ledger.specs.Steps.{task_steps}
pub use Rattle.run_ledger.specs.below.plain_vec.{is_empty}
pub use Rattle.run_ledger.specs.below.run_trace.{SettingsValue}
pub use Rattle.run_ledger.specs.below.walk_laws.{IsWalk}
pub use Rattle.run_ledger.specs.declared.data.Heap.{Heap}
pub use Rattle.run_ledger.specs.declared.data.Ledger.{Ledger}
pub use Rattle.std.proofs.Common.{◌≡◌, ℕ, false, Some, length, slice_get, inl, inr, refl, ap, sym, subst, ◌∙◌, ◌+◌, arith, true, Option, None, List, ◌∷◌, ◌⊎◌, is_some, pos, unwrap_or, [], map, zero, suc, ◌<◌, ℤ, ◌||◌, ◌++◌, slice_set, ap₂, ne_eqb, ◌==◌, ◌&&◌, Bool, not, cond, filter, ◌≤◌, length-append, ◌↔◌, ◌*◌}
pub use Rattle.std.proofs.lemmas.Bool.{both_ways, cases_eq, false≢true, and_parts, eq-eqb, eqb-true, cond-true, cond-false, false_from_ne_true, and_from, eqb-false, not-true}
pub use Rattle.std.proofs.lemmas.List.{append-nil, length-map, map-append}
pub use Rattle.std.proofs.lemmas.List.Concat.{flat_map-append}
pub use Rattle.std.proofs.lemmas.List.Elements.{filter-append}
pub use Rattle.std.proofs.lemmas.Option.{same_Some}
pub use Rattle.std.specs.List.{list_any, AllByRecursion, flat_map}
pub use Rattle.std.specs.Option.{option_map, option_flatten}
pub use Rattle.std.specs.Prelude.{drop}
pub use Rattle.task_machine.specs.below.hh_lang.{ProgramText}
pub use Rattle.task_machine.specs.below.task_frames.{ref_of, int_of, led_frame, CallFrame}
