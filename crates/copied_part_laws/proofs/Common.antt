-- The names of lower crates and of the specifications that these proofs use. Declares nothing.
pub use Rattle.address_laws.proofs.Numbers.{numbers, Distinct, removed_at}
pub use Rattle.collected_heap_laws.proofs.Telling.{moves_are_told, once_moves, some_by}
pub use Rattle.copied_part_laws.specs.Copied.{CollectionHasBegun, part_belongings, CopiesFit, BegunCanCopy, CanCopy, NumbersAreSaid}
pub use Rattle.copied_part_laws.specs.Handed.{BegunIsCopying, CopiedFits, IsCopying}
pub use Rattle.heap_marking.proofs.HeapClosed.{held_seen, seen_held}
pub use Rattle.heap_marking.proofs.SweptUnits.{few_units}
pub use Rattle.leaf_collections.proofs.MoreChunksLaid.{small_units}
pub use Rattle.leaf_collections.proofs.below.copying_gc.{within_at, in_unreserved, new_reverse, all_tidy, used_led, in_small, olds_small, small_ones, any_here, any_none, first_of, needs_are_counted, some_room, first_in, firsts, in_first, none_at}
pub use Rattle.leaf_collections.proofs.below.core_invariant.{fresh_off, same_chunk, counted_from, is_spare, object_seen, seen_object, large_are, names_are, small_names, inside_from, place_there, measured_both, refs_long, apart_here, distinct_from}
pub use Rattle.leaf_collections.proofs.below.ledger_step_laws.{rested_view, rested_worker}
pub use Rattle.leaf_collections.proofs.below.mark_sweep_gc.{unit_sum}
pub use Rattle.leaf_collections.proofs.below.object_layout.{behind, first, chunk_there, led_are_read, words_in-push, Once, once_from, cell_in, same_is, objects_appended}
pub use Rattle.leaf_collections.proofs.below.plain_vec.{in_append_cases, in_append_left, in_append_right, in_map, in_from_kept, all_from, map_in, read_in, in_flat, in_kept, contains_from_in, in_from_contains, flat_in, got_in, in_from_any}
pub use Rattle.leaf_collections.proofs.below.refinement.{in_objects, from_flat, at_belongings, in_chunk}
pub use Rattle.leaf_collections.proofs.below.refinement_laws.{NamedOnce}
pub use Rattle.leaf_collections.proofs.below.run_ledger.{holds_from_in, in_from_holds, Full, heap_words, kept_weight, use_is_bounded, heap_machine, born_from, born_is, born_on, collections_keep_just, born_both, birth_cases, in_birth, insert_cases}
pub use Rattle.leaf_collections.proofs.below.task_machine.{names-push}
pub use Rattle.leaf_collections.specs.LeafEnd.{AreBack, FitsCopied}
pub use Rattle.leaf_collections.specs.below.chunk_list.{Level}
pub use Rattle.leaf_collections.specs.below.chunk_pool.{Slot, PoolValue, slot_at, owner_of, slot_units}
pub use Rattle.leaf_collections.specs.below.copying_gc.{Survivor, olds, last_place, reserved_of, reserved_place, AreNew, Laying, laid_all, laid_one, room_in, emptied, nothing_laid, smalls, led_chunk, unreserved, AreSurvivors, back_of, keeps, large_of, laid_of, laying_of, leaves, CanTake, HaveRoom, open_next, opened, placed_behind, led_cell, collected, old_of, is_moved, outside, IsCollected, new_address, as_reference, frame_references, references_in, ObjectFits, moves_of, redirection, laid_at, next_place, relocations, survivor_order, IsSurvivor, CopyStarts}
pub use Rattle.leaf_collections.specs.below.core_invariant.{chunk_of, chunks_of, HeapForm, AreMeasured, take_by, belongings_of_part, AreUnits, news_of, SharedValue, accounts, frames_down, belongings_with, value_of}
pub use Rattle.leaf_collections.specs.below.hh_lang.{ProgramText}
pub use Rattle.leaf_collections.specs.below.hh_model.{Name, MachineState, Object, object_at, Frame, Running, Task}
pub use Rattle.leaf_collections.specs.below.leaf_heap.{HaveDistinctNumbers, LeafHeapValue, IsCurrent, IsReserved, unit_count, IsFresh, room_of, with_places, IsSettled, AreTidy, IsTidy, counted32, room_at}
pub use Rattle.leaf_collections.specs.below.ledger_step_laws.{aside, rested}
pub use Rattle.leaf_collections.specs.below.mark_sweep_gc.{units_in_slots}
pub use Rattle.leaf_collections.specs.below.object_layout.{Born, Cell, Hole, Mark, Moved, size_of, ChunkValue, Located, located, objects_from, chunk_at, Addr, moved_to, number_of, cell_of, object_words_in, held_size, held_words, words_in, led_object, cell_at, small_words, HeapIsClosed, IsSoundReference, Birth, located_by, HasObjectAt, RefersTo}
pub use Rattle.leaf_collections.specs.below.plain_vec.{is_empty}
pub use Rattle.leaf_collections.specs.below.refinement.{In, object_name, objects_of_chunks, AreLaidOut, words, ChunksHaveNames, Chunk, HoldsLarge, reserved_chunks, reserved_units, chunk_names, small_chunks, PartFits, part_for, Belongings, Memory, copied_object, IsReachedAt, BelongingsStand, LiesWithOwner, MemoryStands, with_belongings, BegunStands, CopyFits, IsCopy, AllRead, FramesAreRead, HoldsRead, TaskIsRead, DontOverlap, HoldsAt, LeadsAt, StartsAt, part_before}
pub use Rattle.leaf_collections.specs.below.remembered_set.{same_address}
pub use Rattle.leaf_collections.specs.below.run_ledger.{Heap, words_at, words_sum, units, laid_onto, large_survivors, room_behind, small_in, small_survivors, holds_name, begun_in, chunk_words, units_in, units_sum, Ledger, end_numbers, heap_of, in_use, let_go, object_words_of, lay, by_birth, insert_name, name_le, AreByBirth}
pub use Rattle.leaf_collections.specs.below.run_trace.{SettingsValue}
pub use Rattle.leaf_collections.specs.below.task_frames.{FramesValue, CallFrame, frames_of, led_frame}
pub use Rattle.leaf_collections.specs.below.task_machine.{named_by, names_in, small_lists, name_of, IsLastLarge, IsLastSmall, large_names, HasReservedUnits, HeapMatchesAccount, Private, Begun}
pub use Rattle.leaf_collections.specs.below.walk_laws.{IsWalk}
pub use Rattle.std.proofs.Common.{◌≡◌, ℕ, ◌+◌, ◌≤◌, ◌==◌, arith, Bool, true, false, cond, List, [], ◌∷◌, ◌++◌, inl, inr, refl, ap, sym, ◌∙◌, zero, suc, ◌-◌, ◌<◌, Option, Some, None, length, length-append, subst, map, nat_lt, ◌⊎◌, ◌*◌, ◌/◌, not, All, filter, ◌&&◌, ap₂, eq-eqb, ne_eqb, nat_le, slice_get, sum_by, is_some, get_or, is_lt}
pub use Rattle.std.proofs.lemmas.Bool.{eqb-true, false≢true, cases_lt, cond-false, cond-true, cases_Bool, le-leb, leb-true, lt-leb, not-true, ltb-true, cases_eq, and_parts, le-ltb, lt-ltb}
pub use Rattle.std.proofs.lemmas.List.{length-map, reverse-append, append-nil, length-reverse}
pub use Rattle.std.proofs.lemmas.List.Sums.{sum_by-append, sum_by-cons}
pub use Rattle.std.proofs.lemmas.Option.{same_Some}
pub use Rattle.std.specs.List.{flat_map, list_any}
pub use Rattle.std.specs.Option.{option_map}
pub use Rattle.std.specs.Prelude.{reverse, remove, unwrap_or, pos}
