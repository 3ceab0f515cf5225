-- The names of lower crates and of the specifications that these proofs use. Declares nothing.
pub use Rattle.address_laws.proofs.Numbers.{numbers, Distinct}
pub use Rattle.collected_heap_laws.specs.Laws.{labels, NoChunkIsLost, LargeAreRead, MovedAreRead, MovesAreTold}
pub use Rattle.copying_gc.proofs.Evacuated.{once_sorted}
pub use Rattle.copying_gc.proofs.FollowLemmas.{size_led}
pub use Rattle.copying_gc.proofs.LastChunk.{some_room}
pub use Rattle.copying_gc.proofs.NewNumbers.{within_at}
pub use Rattle.copying_gc.proofs.Order.{first_in, firsts, in_first}
pub use Rattle.copying_gc.proofs.Rebuilt.{first_of, none_at}
pub use Rattle.copying_gc.proofs.SmallSurvivors.{small_lives, small_room}
pub use Rattle.copying_gc.specs.Collected.{back_of, collected, keeps, large_of, laid_of, laying_of, leaves, redirection, AreSurvivors, moves_of}
pub use Rattle.copying_gc.specs.Exchanged.{emptied, reserved_of, unreserved}
pub use Rattle.copying_gc.specs.Laid.{Laying, nothing_laid, laid_all, laid_one, open_next, opened, placed_behind, room_in, smalls, HaveRoom, is_moved, laid_at, next_place, relocations}
pub use Rattle.copying_gc.specs.Laws.{CanTake}
pub use Rattle.copying_gc.specs.Redirected.{led_chunk, led_cell, redirected}
pub use Rattle.copying_gc.specs.Survivors.{olds}
pub use Rattle.copying_gc.specs.declared.lists.Survivor.{Survivor}
pub use Rattle.leaf_heap.specs.LeafHeapValue.{LeafHeapValue, IsReserved, IsSettled, IsTidy}
pub use Rattle.object_layout.proofs.Distinct.{once_from, Once, is_same, same_is}
pub use Rattle.object_layout.proofs.Owning.{fresh_none}
pub use Rattle.object_layout.specs.Cell.{Cell, size_of, IsBorn, IsObject, no_cell}
pub use Rattle.object_layout.specs.ChunkValue.{ChunkValue, number_of}
pub use Rattle.object_layout.specs.Chunks.{cell_of, chunk_at, no_chunk, has_chunk}
pub use Rattle.object_layout.specs.Graph.{HasObjectAt}
pub use Rattle.object_layout.specs.Place.{cell_at, IsCellAt}
pub use Rattle.object_layout.specs.declared.word.Addr.{Addr}
pub use Rattle.plain_vec.proofs.Members.{In, in_append_left, in_from_contains, in_kept, contains_from_in}
pub use Rattle.plain_vec.proofs.Places.{map_in, read_in}
pub use Rattle.remembered_set.specs.Moved.{same_address, ArePlaces, new_of}
pub use Rattle.std.proofs.Common.{◌≡◌, ℕ, Bool, true, false, cond, List, [], ◌∷◌, ◌++◌, map, filter, refl, sym, ap, ◌∙◌, subst, Option, Some, None, append_assoc, zero, suc, ◌+◌, ◌-◌, Contains, ◌<◌, length, arith, inl, inr, ◌⊎◌, eqb}
pub use Rattle.std.proofs.lemmas.Bool.{cases_Bool, cases_lt, le-leb, lt-leb, false≢true}
pub use Rattle.std.proofs.lemmas.List.{get_or_default, length-reverse}
pub use Rattle.std.proofs.lemmas.List.Sorted.{IsPermutation-append, IsPermutation-append_comm, IsPermutation-append_left, IsPermutation-append_right, IsPermutation-filter_both, IsPermutation-map, IsPermutation-refl, IsPermutation-remove, IsPermutation-reverse, IsPermutation-trans, Contains-permutation, IsPermutation-sym}
pub use Rattle.std.specs.List.{list_any}
pub use Rattle.std.specs.List.Sorted.{IsPermutation}
pub use Rattle.std.specs.Prelude.{nat_lt, reverse, nat_le, not, remove, ◌&&◌, unwrap_or}
