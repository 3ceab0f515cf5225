-- The names of lower crates and of the specifications that these proofs use. Declares nothing.
pub use Rattle.chunk_pool.specs.PoolValue.{PoolValue, Releases, slot_at, slot_units}
pub use Rattle.leaf_heap.proofs.HeapLemmas.{none_there}
pub use Rattle.leaf_heap.proofs.ChunkAdded.{fresh_behind, fresh_cons, fresh_front, fresh_head, fresh_tail, fresh_at, apart_before}
pub use Rattle.leaf_heap.specs.Counted.{AreCounted}
pub use Rattle.leaf_heap.specs.LeafHeapValue.{HaveDistinctNumbers, IsFresh, IsCurrent, IsReserved, IsSettled, IsTidy, units, LeafHeapValue}
pub use Rattle.leaf_heap.specs.Units.{counted32, unit_count}
pub use Rattle.mark_sweep_gc.specs.Laws.{MarkingGoesOn, MarkingStaysOf, SnapshotIsOfRoots, AllMarkedIsDone, SweptChunksHold, SweptAreRead, SweptIsSnapshot}
pub use Rattle.mark_sweep_gc.specs.MarkingValue.{FindsMore, HasCapacityForAll, MarkingValue, with_address, has_address, marked_of, IsAllMarked, IsMarking, IsOf}
pub use Rattle.mark_sweep_gc.specs.Snapshot.{object_count, Fork, IsInSnapshot, MarkStarts, IsSince}
pub use Rattle.mark_sweep_gc.specs.Swept.{AreGiven, units_in_slots, has_number, has_object, chunk_number_at, place_at, stays, swept, swept_cell, swept_cells, swept_chunk, is_object, goes}
pub use Rattle.object_layout.proofs.Distinct.{Once, distinct_from, once_from, once_push, same_is, same_self}
pub use Rattle.object_layout.specs.Cell.{Born, Cell, Hole, IsObject, Mark, Moved, no_cell, size_of, IsBorn, as_object, marked_object, moved_to, with_mark}
pub use Rattle.object_layout.specs.ChunkValue.{ChunkValue}
pub use Rattle.object_layout.specs.Chunks.{cell_of, same_address, held_size, one_each, sum_in, place_in, chunk_position, chunk_at, object_of}
pub use Rattle.object_layout.specs.Graph.{HasObjectAt, IsSoundReference, RefersTo}
pub use Rattle.object_layout.specs.Place.{cell_at, IsCellAt, put_cell, words_in, cells_from}
pub use Rattle.object_layout.specs.declared.word.Addr.{Addr}
pub use Rattle.object_layout.specs.declared.word.Header.{Header}
pub use Rattle.plain_vec.proofs.Members.{In, any_from_in, in_from_any, in_append_left, in_append_right, in_append_cases, contains_from_in, in_from_contains}
pub use Rattle.plain_vec.proofs.Places.{all_from, got_in_take, in_take_more, take_more_in, in_take}
pub use Rattle.std.proofs.Common.{◌≡◌, ℕ, suc, ◌≤◌, Bool, true, false, cond, List, [], ◌∷◌, ◌++◌, length, refl, sym, ap, ◌∙◌, subst, arith, ◌⊎◌, inl, inr, zero, ◌+◌, ◌-◌, ◌==◌, ◌<◌, get_or, drop, Contains, take, All, Some, None, slice_get, nat_lt, filter, map, eqb, ◌*◌, one-add, Option, rules, vec_len, vec_capacity}
pub use Rattle.std.proofs.lemmas.Bool.{false≢true, false_from_ne_true, cases_Bool, eq-eqb, eqb-true, lt-ltb, ne_eqb, or_parts, cases_lt, le-leb, lt-leb, or_left}
pub use Rattle.std.proofs.lemmas.Iterator.Adapters.{YieldsList-from_vec}
pub use Rattle.std.proofs.lemmas.Iterator.Consumers.{YieldsList-turn}
pub use Rattle.std.proofs.lemmas.List.{append-nil, length-append, drop_all, drop_more, append_assoc, take_all, length-drop, take_more, map-append, take-append-le, length-map, length-take, get_or_default, length_push}
pub use Rattle.std.proofs.lemmas.List.Elements.{All-append, All-cons, All-head, All-nil, All-tail, All-filter, All-map, All-weaker, All-get_or}
pub use Rattle.std.proofs.lemmas.Option.{slice_get-get_or}
pub use Rattle.std.specs.HashSet.{contains}
pub use Rattle.std.specs.List.{IsDistinct}
pub use Rattle.std.specs.Prelude.{nat_le, is_some, if◌then◌else◌, IsSome, ◌||◌, ◌↔◌, IsTrue}
pub use Rattle.walk_laws.proofs.Reached.{reached_start, reached_more, reached_within}
