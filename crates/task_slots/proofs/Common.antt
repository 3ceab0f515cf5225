-- The names of lower crates and of the specifications that these proofs use. Declares nothing.
pub use Rattle.leaf_heap.specs.FieldLaws.{with_ref_of}
pub use Rattle.leaf_heap.specs.LeafHeapValue.{LeafHeapValue}
pub use Rattle.mark_sweep_gc.specs.MarkingValue.{MarkingValue}
pub use Rattle.object_layout.specs.Cell.{cell_with_int}
pub use Rattle.object_layout.specs.Chunks.{cell_of, put_object}
pub use Rattle.object_layout.specs.declared.word.Addr.{Addr}
pub use Rattle.leaf_heap.proofs.below.plain_vec.{got_other, got_same, got_map, got_item}
pub use Rattle.remembered_set.specs.Moved.{target_of, new_reference, redirected, written}
pub use Rattle.remembered_set.specs.Sources.{with_noted_source, StandOnce}
pub use Rattle.remembered_set.specs.declared.remembered.RefField.{RefField}
pub use Rattle.std.proofs.Common.{◌≡◌, ℕ, ◌&&◌, ◌++◌, ◌∷◌, Bool, true, cond, List, [], Some, Result, Ok, Err, OnErr, OnOk, refl, ap, ap₂, sym, eq-eqb, ne_eqb, ◌∙◌, Option, None, fold, IfSome, IsSome, ◌≤◌, ◌<◌, arith, option_map, inl, inr, false, zero, suc, ◌-◌, length, map, slice_get, slice_set, subst, rules}
pub use Rattle.std.proofs.lemmas.Bool.{cases_eq, false≢true}
pub use Rattle.std.proofs.lemmas.List.{length-map, length-set, map-set}
pub use Rattle.std.proofs.lemmas.Option.{same_Some, slice_get_within}
pub use Rattle.std.proofs.lemmas.Result.{on_ok_weaker, on_err_weaker}
pub use Rattle.std.specs.Option.{option_flatten}
pub use Rattle.std.specs.Vec.{vec_capacity}
pub use Rattle.task_slots.specs.RestingHeaps.{heap_refs, resting_references, resting, with_heap_ref, with_ref_in, with_resting, Resting}
pub use Rattle.task_slots.specs.TaskSlotsValue.{keeping, TaskSlotsValue, has_block, task_slots_value, marking_in, marks_at, rest_at, rest_in, set_in, sources_of, IsSameRest, keeps_of}
pub use Rattle.task_slots.specs.declared.heaps.Heaps.{Heaps}
pub use Rattle.task_slots.specs.declared.slots.TaskSlot.{TaskSlot}
pub use Rattle.task_slots.specs.declared.task_at_rest.ParkedTask.{ParkedTask}
pub use Rattle.write_barrier.specs.Forms.{bare_noted}
pub use Rattle.write_barrier.specs.Stored.{Content, content_of, with_kept, with_source, IsRoomy, content_at}
pub use Rattle.write_barrier.specs.declared.sets.SetOf.{SetOf}
