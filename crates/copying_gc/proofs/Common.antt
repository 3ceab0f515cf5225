-- The names of lower crates and of the specifications that these proofs use. Declares nothing.
pub use Rattle.address_laws.proofs.Numbers.{numbers, Distinct, numbers_append, in_removed, in_at, removed_at, distinct_removed, reverse_first}
pub use Rattle.address_laws.proofs.Puts.{live_chunk}
pub use Rattle.address_laws.specs.Alike.{HaveSameShape}
pub use Rattle.object_layout.proofs.below.chunk_sizes.{Filled, filled_more, filled_next}
pub use Rattle.copying_gc.specs.Collected.{IsVacated, keeps, leaves, laying_of, redirection, moves_of, AreSurvivors}
pub use Rattle.copying_gc.specs.CollectorValue.{CollectorValue}
pub use Rattle.copying_gc.specs.Copying.{copied, copied_one, CanBeCopied, survivor_cell}
pub use Rattle.copying_gc.specs.Evacuated.{CollectorBegins, IsEvacuated}
pub use Rattle.copying_gc.specs.Exchanged.{emptied, goes, stays, unreserved, reserved_of, reserved_place, with_birth_name, last_place, CanName, counted32, unit_count}
pub use Rattle.copying_gc.specs.Laid.{nothing_laid, smalls, AreNew, is_moved, relocations, laid_at, room_in, placed_behind, next_place, Laying, laid_all, laid_one, opened, open_next, HaveRoom, ObjectFits, small_in, small_size}
pub use Rattle.copying_gc.specs.Near.{FindsChunk}
pub use Rattle.copying_gc.specs.Packed.{used_words, ArePacked}
pub use Rattle.copying_gc.specs.Redirected.{led_chunk, followed_ref, followed_large, redirected, led_cell, followed, led_frame, followed_at, HasTargets, CanBeFollowed, new_address}
pub use Rattle.copying_gc.specs.Search.{found_in, all_found, visited_reference, visited_at, birth_in, IsTarget}
pub use Rattle.copying_gc.specs.Survivors.{olds, with_chunks, HaveNames, old_of, IsSurvivor, CopyStarts, frame_references, as_reference, born_of, born_in, live_count, outside, survivor_order}
pub use Rattle.copying_gc.specs.declared.discovery.Live.{Live}
pub use Rattle.copying_gc.specs.declared.lists.Survivor.{Survivor}
pub use Rattle.leaf_heap.proofs.HeapLemmas.{none_there, place_within}
pub use Rattle.leaf_heap.proofs.Settled.{unmoved_at}
pub use Rattle.leaf_heap.specs.Counted.{AreCounted}
pub use Rattle.leaf_heap.specs.LeafHeapValue.{HaveDistinctNumbers, AreTidy, LeafHeapValue, IsReserved, IsCurrent, IsSettled, exchanged, with_places, units, IsTidy, saturating_words, CellsFitInChunks}
pub use Rattle.leaf_heap.specs.declared.counts.Counts.{Counts}
pub use Rattle.object_layout.proofs.ChunkLaws.{addr_cases, length-put, mark_put, place_of-put, put_object-put_object}
pub use Rattle.object_layout.proofs.Distinct.{Once, once_push, is_same, distinct_from, once_from}
pub use Rattle.object_layout.proofs.ObjectLemmas.{chunk_there}
pub use Rattle.object_layout.proofs.PlaceLemmas.{map-put_cell}
pub use Rattle.object_layout.specs.Cell.{Cell, Born, IsBorn, IsObject, Moved, size_of, with_mark, with_ref, Mark, Hole, moved_to, no_cell}
pub use Rattle.object_layout.specs.ChunkValue.{ChunkValue, number_of}
pub use Rattle.object_layout.specs.Chunks.{chunk_at, cell_of, object_of, put_object, place_in, chunk_position, held_size, object_count, one_each, small_part, sum_in, sum_of, object_words_in, held_words, small_words, no_chunk}
pub use Rattle.object_layout.specs.Graph.{HeapIsClosed, HasObjectAt, IsSoundReference, RefersTo}
pub use Rattle.object_layout.specs.Place.{cell_at, object_at, put_cell, words_in, IsCellAt, IsObjectAt}
pub use Rattle.object_layout.specs.declared.word.Addr.{Addr}
pub use Rattle.object_layout.specs.declared.word.Birth.{Birth}
pub use Rattle.object_layout.specs.declared.word.Header.{Header}
pub use Rattle.plain_vec.proofs.Members.{In, in_append_left, in_append_right, in_append_cases, contains_from_in, in_from_contains, in_from_kept}
pub use Rattle.plain_vec.proofs.Places.{all_from, in_read, read_in, all_at, in_map, map_in, got_item}
pub use Rattle.remembered_set.specs.Moved.{same_address, new_of, AreAscending, address_key}
pub use Rattle.std.proofs.Common.{◌≡◌, ℕ, ◌+◌, ◌<◌, List, [], ◌++◌, length, map, filter, fold, refl, sym, ap, ◌∙◌, subst, arith, Option, Some, None, reverse, suc, ◌≤◌, ◌∷◌, get_or, take, inl, inr, Contains, ◌↔◌, length-append, All, Bool, true, false, cond, drop, zero, ◌-◌, slice_get, eqb, ⊎_elim, set, ◌*◌, ◌/◌, eqb-true, ◌⊎◌, is_some, eq-eqb, is_lt, nat_cmp, length-take, length-drop, option_map, rules, ◌^◌, vec_len, vec_capacity}
pub use Rattle.std.proofs.lemmas.Bool.{cases_Bool, le-leb, cases_lt, lt-leb, false≢true, lt-ltb, le-ltb, and_parts, leb-true}
pub use Rattle.std.proofs.lemmas.List.{length-map, reverse-reverse, nil_from_length, append_assoc, append-nil, take_more, take_all, get_or_append_left, take-append-le, drop_all, get_or_read, length_push, get_or-append_right, get_or-drop, length-reverse, get_or_default}
pub use Rattle.std.proofs.lemmas.List.Edits.{map_over_more}
pub use Rattle.std.proofs.lemmas.List.Elements.{All-cons, All-head, All-tail, All-push, All-append, All-filter, All-get_or, All-map, All-nil, All-weaker}
pub use Rattle.std.proofs.lemmas.List.Sorted.{IsPermutation-map, IsPermutation-sym, Contains-permutation, sum_by-IsPermutation, All-permutation, length_permutation}
pub use Rattle.std.proofs.lemmas.List.Sums.{fold-append, sum_by-cons, fold_more}
pub use Rattle.std.specs.List.{sum_by, list_any, IsDistinct}
pub use Rattle.std.specs.List.Sorted.{IsPermutation, IsSorted}
pub use Rattle.std.specs.Ordering.{ordering_then}
pub use Rattle.std.specs.Prelude.{nat_le, nat_lt, unwrap_or, remove, not, ◌&&◌}
pub use Rattle.std.specs.Vec.{with_items}
pub use Rattle.std.specs.declared.cmp.Ordering.{Ordering}
pub use Rattle.task_frames.specs.FramesValue.{references_of, references_written, FramesValue, frames_of}
pub use Rattle.task_frames.specs.declared.frames.CallFrame.{CallFrame}
pub use Rattle.walk_laws.proofs.Reached.{reached_within}
