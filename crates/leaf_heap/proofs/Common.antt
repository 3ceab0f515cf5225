-- The names of lower crates and of the specifications that these proofs use. Declares nothing.
pub use Rattle.chunk_list.proofs.below.frozen_views.{on_ok}
pub use Rattle.chunk_list.specs.below.frozen_views.{NotesChanges, PiecesValue, ShowsChunks, written_chunk}
pub use Rattle.leaf_heap.specs.LeafHeapValue.{CellsFitInChunks, saturating_words, LeafHeapValue, IsCurrent, IsFresh, AgreesWithChunks, IsReserved, large_place, HaveDistinctNumbers, place_for, room_at, small_place, units, AllBeginInFirstUnit, AreTidy, IsTidy, added, IsSettled}
pub use Rattle.leaf_heap.specs.PlaceLaws.{KeepsShape, WritesKeepCounts}
pub use Rattle.leaf_heap.specs.contracts.contents.Contents.{the_view}
pub use Rattle.object_layout.proofs.ChunkLaws.{length-put, cell_of-found, place_of-put, none_there, place_there}
pub use Rattle.object_layout.proofs.HoldLemmas.{size_of-new}
pub use Rattle.object_layout.proofs.PlaceLemmas.{total-put_cell, words_in-push, All-put_cell}
pub use Rattle.object_layout.specs.Cell.{Cell, size_of, Born, Hole, IsObject, Mark, Moved, header_of, moved_to, no_cell, with_mark, frozen, filled_cell, new_cell, cell_with_int, with_ref}
pub use Rattle.object_layout.specs.ChunkValue.{ChunkValue}
pub use Rattle.object_layout.specs.Chunks.{cell_of, chunk_at, object_words_in, held_size, held_words, one_each, put_object, small_part, sum_in, sum_of, no_chunk, object_count, place_in, chunk_position, small_words, with_cell, next_address, push_object}
pub use Rattle.object_layout.specs.Objects.{Located}
pub use Rattle.object_layout.specs.Place.{cell_at, object_at, put_cell, words_in, IsObjectAt, IsCellAt, cells_from}
pub use Rattle.object_layout.specs.declared.word.Addr.{Addr}
pub use Rattle.object_layout.specs.declared.word.Header.{Header}
pub use Rattle.plain_vec.proofs.Members.{In}
pub use Rattle.std.proofs.Common.{◌≡◌, ℕ, zero, suc, ◌+◌, List, [], ◌∷◌, refl, ap, ap₂, inl, inr, eqb, ◌-◌, ◌*◌, ◌/◌, ◌^◌, ◌<◌, ◌≤◌, Bool, true, false, ◌++◌, length, get_or, set, sym, ◌∙◌, subst, arith, ⊎_elim, ◌⊎◌, length-set, length-append, append_assoc, Option, Some, None, take, cond, All, nat_eq, rules}
pub use Rattle.std.proofs.lemmas.Bool.{cases_Bool, cases_lt, eqb-true, eq-eqb, ne_eqb, lt-ltb, le-ltb, le-leb, lt-leb}
pub use Rattle.std.proofs.lemmas.Int.{to_z-of_z}
pub use Rattle.std.proofs.lemmas.List.{get_or_read, get_or_append_left, get_or-append_right, take_more, get_or-set_same, length-take-le}
pub use Rattle.std.proofs.lemmas.List.Elements.{All-append, All-get_or, All-push, All-set, All-cons, All-head, All-nil, All-tail}
pub use Rattle.std.specs.Borrow.{Bor}
pub use Rattle.std.specs.HashMap.{get, hash_map_len, spare}
pub use Rattle.std.specs.Int.{w64}
pub use Rattle.std.specs.Option.{option_or}
pub use Rattle.std.specs.Prelude.{IfSome, option_copied, Result, Ok, Err, IfOk, IsOk, is_some, option_map}
