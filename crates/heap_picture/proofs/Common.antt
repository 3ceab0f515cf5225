-- The names of lower crates and of the specifications that these proofs use. Declares nothing.
pub use Rattle.heap_image.proofs.below.hh_lang.{fits_passes}
pub use Rattle.heap_image.proofs.below.plain_vec.{each_in, in_map, map_in, got_some, in_got, read_in, got_in, in_append_cases, in_append_left, in_append_right, got_in_take, in_take_more, take_more_in}
pub use Rattle.heap_image.specs.Form.{HasFitParent, IsChunkForm, IsFieldForm, IsInForm, IsObjectForm, IsTaskForm}
pub use Rattle.heap_image.specs.ImageData.{ObjectBefore, PickedDontOverlap, IsAbove, IsDownField, IsOwnedBy, LiesInIdleChunk, IsRunning, ImageKeepsToPath, ImageLeadsSomewhere, picked_end, HasTask, HasImageParent, ChunkBefore, RememberedBefore, TaskBefore, IsSoundPicture}
pub use Rattle.heap_image.specs.below.run_trace.{Version, One, Two, field_limit}
pub use Rattle.heap_image.specs.declared.picture.ImageData.{ImageData}
pub use Rattle.heap_image.specs.declared.picture.Picked.{Picked}
pub use Rattle.image_check.specs.Place.{offset, chunk_number}
pub use Rattle.image_check.specs.declared.line.ImageBirth.{ImageBirth}
pub use Rattle.image_check.specs.declared.line.ImageChunk.{ImageChunk}
pub use Rattle.image_check.specs.declared.line.ImageRemembered.{ImageRemembered}
pub use Rattle.image_check.specs.declared.line.ImageState.TheVariants.{Running}
pub use Rattle.image_check.specs.declared.line.ImageTask.{ImageTask}
pub use Rattle.heap_picture.specs.Drawing.{AreFieldsOf, AreObjectsOf}
pub use Rattle.heap_picture.specs.Drawn.{IsHandedBack, drawn_object, AreHeldInWords, IsPictureOf, drawn_field, drawn_chunk, drawn_state, drawn_task, IsFieldOf, IsObjectOf}
pub use Rattle.heap_picture.specs.Held.{AreReferences, HasJustHeld, IsImageReference, ObjectStandsFor}
pub use Rattle.std.proofs.Common.{◌≡◌, ℕ, ◌+◌, ◌*◌, ◌<◌, ◌≤◌, ◌==◌, arith, Bool, true, false, cond, Option, Some, None, List, [], ◌∷◌, map, eqb-true, inl, inr, refl, ap, sym, subst, ◌∙◌, ◌⊎◌, length, option_map, slice_get, ◌^◌, max, zero, suc, ◌-◌, ◌/◌, ◌%◌, ◌++◌, take, is_some, get_or, take_all, reverse, vec_len}
pub use Rattle.std.proofs.lemmas.Bool.{eq-eqb, false≢true, cases_Bool}
pub use Rattle.std.proofs.lemmas.List.{length-map}
pub use Rattle.std.proofs.lemmas.Map.Keys.{IsDistinct-head, IsDistinct-tail}
pub use Rattle.std.proofs.lemmas.Option.{same_Some, slice_get-map, slice_get_within, slice_get-get_or}
pub use Rattle.std.specs.Int.{w64}
pub use Rattle.std.specs.List.{IsDistinct}
pub use Rattle.std.specs.Prelude.{FitsSigned}
pub use Rattle.heap_reading.proofs.below.core_invariant.{belongings_chunks, refs_long, used_now}
pub use Rattle.heap_reading.proofs.KeptNames.{handed_held, runs_is}
pub use Rattle.heap_reading.proofs.IdleTasks.{journal_idle}
pub use Rattle.heap_reading.proofs.TreeNow.{joined_now, live_now, node_at, same_machine, sound, task_of, tree_of}
pub use Rattle.heap_reading.proofs.InOrder.{all_same}
pub use Rattle.heap_reading.proofs.below.hh_model.{runs_have_one_root, limit_stays, sizes_are_bounded, owner_le}
pub use Rattle.heap_reading.proofs.below.journal_laws.{journals_are_counted}
pub use Rattle.heap_reading.proofs.below.path_laws.{waiting_stops, owners_are_walks, paths_are_walks}
pub use Rattle.heap_reading.proofs.below.refinement.{in_objects, name_at, held_object, object_held, in_chunk}
pub use Rattle.heap_reading.proofs.below.run_ledger.{steps_are_bounded, machine_is_run, use_is_bounded}
pub use Rattle.heap_reading.specs.below.chunk_pool.{Slot, slot_at, AreChunks, slot_in, slot_units, units_in, units_in_use}
pub use Rattle.heap_reading.specs.below.core_invariant.{chunk_of, chunks_of, IsSharedValue, SharedValue, belongings_in, rest_at, value_of, accounts, IsFree}
pub use Rattle.heap_reading.specs.HeldNames.{is_state_running}
pub use Rattle.heap_reading.specs.Image.{AreAll, Rises, in_words, objects_numbered, objects_of, objects_owned, field_of, IsLive, IsInUse, AreInWords, InUseBefore, IsNoted, LiveBefore}
pub use Rattle.heap_reading.specs.declared.live.LiveTask.{LiveTask}
pub use Rattle.heap_reading.specs.declared.live.InUse.{InUse}
pub use Rattle.heap_reading.specs.declared.noted.FieldAt.{FieldAt}
pub use Rattle.heap_reading.specs.below.heap_tree.{state_of, Joined, TaskState, Ready, Out, Waiting, Ended, TaskNode}
pub use Rattle.heap_reading.specs.below.hh_model.{Name, Object, Task, object_at, joined, MachineState, is_running, owner_of, Counted, row_of, parents, run, HasOneRoot, TreeOf, joins_in, waiting, is_on_path, parent_of}
pub use Rattle.heap_reading.specs.below.ledger_step_laws.{Rests, own}
pub use Rattle.heap_reading.specs.below.object_layout.{Born, Cell, Hole, Mark, Moved, size_of, ChunkValue, Located, located_by, objects_from, Addr, IsRef, word_of_ref}
pub use Rattle.heap_reading.specs.below.path_laws.{AreOwners, ArePaths, IsWalkUp}
pub use Rattle.heap_reading.specs.below.refinement.{Chunk, In, Memory, objects, words, IsModelObject, BelongingsStand, IsSource, LiesWithOwner, object_name, sources, AllRead, handed, MemoryStands, objects_of_chunks}
pub use Rattle.heap_reading.specs.below.remembered_set.{RefField}
pub use Rattle.heap_reading.specs.below.run_ledger.{Ledger, heap_of, held_in, tasks_of, in_use}
pub use Rattle.heap_reading.specs.below.task_slots.{ParkedTask}
