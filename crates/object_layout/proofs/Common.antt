-- The names of lower crates and of the specifications that these proofs use. Declares nothing.
pub use Rattle.object_layout.specs.Cell.{Cell, Mark, Born, Moved, Hole, IsBorn, IsObject, as_object, no_cell, with_ref, size_of, cell_with_int, with_ints, with_refs, IsCell, new_cell, IsRef, marked_object, IsMark, BeginsInFirstUnit, moved_to, header_of, with_mark, frozen}
pub use Rattle.object_layout.specs.ChunkValue.{ChunkValue, HoldsCells, cells_in}
pub use Rattle.object_layout.specs.Chunks.{cell_of, chunk_at, next_address, object_of, place_in, chunk_position, push_object, put_object, with_cell, same_address, has_chunk, HaveDistinctNumbers, IsFresh}
pub use Rattle.object_layout.specs.Laws.{ApartTogether}
pub use Rattle.object_layout.specs.Layout.{header_word, word_of_birth, word_of_ref, words_of_cell, words_of_cells, word_of_mark, is_gone, nrefs_of, nints_of, mutable_of, gone_of, ref_of_word, birth_of_word, mark_of_word, mark_of_ref, bit_of}
pub use Rattle.object_layout.specs.ObjectLaws.{AppendedIsLast, LedAreRead, PutChangesOne, SiftedAreFiltered, LiesThere, ObjectsLieThere}
pub use Rattle.object_layout.specs.Objects.{Located, changed_at, led_cell, led_object, located, located_by, objects_from, objects_of, sifted_cells, swept_cell, with_fields, objects_in}
pub use Rattle.object_layout.specs.Piece.{frozen_at, frozen_from, is_frozen, lasts, or_no_cell, starts_from, starts_in}
pub use Rattle.object_layout.specs.Place.{cell_at, put_cell, IsObjectAt, object_at, words_in, IsCellAt, cells_from}
pub use Rattle.object_layout.specs.declared.word.Addr.{Addr}
pub use Rattle.object_layout.specs.declared.word.Birth.{Birth}
pub use Rattle.object_layout.specs.declared.word.Header.{Header}
pub use Rattle.plain_vec.proofs.Members.{In, contains_from_in, in_append_cases, in_from_contains, any_from_in, flat_in, got_in, in_flat}
pub use Rattle.plain_vec.proofs.Options.{none_of}
pub use Rattle.plain_vec.proofs.Places.{in_take}
pub use Rattle.std.proofs.Common.{◌≡◌, ℕ, zero, suc, ◌<◌, ◌≤◌, true, false, List, [], ◌∷◌, ◌++◌, length, get_or, set, refl, sym, ap, subst, ◌∙◌, arith, ⊎_elim, inl, inr, ◌⊎◌, eqb, one-add, ◌≢◌, Option, Some, None, slice_set, ◌==◌, take, Contains, ℤ, ◌+◌, drop, length-append, length-drop, ◌-◌, ◌^◌, rules, map, pos, ◌&&◌, Bool, cond, filter, nat_le, ap₂, ◌||◌, ◌*◌, ◌/◌, ◌%◌, add-one, to_z, of_z}
pub use Rattle.std.proofs.Math.Bool.{or-false, or-true}
pub use Rattle.std.proofs.lemmas.Bool.{cases_Bool, cases_eq, cases_lt, eqb-true, le-ltb, lt-ltb, and_from, and_parts, both_ways, eq-eqb, false_from_ne_true, cond-true, cond-false, leb-true, leb-false, false≢true, ne_eqb, or_from, or_parts, le-leb, lt-leb, cond_both}
pub use Rattle.std.proofs.lemmas.Int.{to_z-of_z}
pub use Rattle.std.proofs.lemmas.List.{get_or-set_same, length-take-le, append-nil, drop-take, drop_at, get_or-take, length-replicate, replicate-append-replicate, take-take, take_at, length-map, append_assoc, get_or-append_right, get_or_append_left, set-append_left, set-append_right, get_or-map, map-set, with_items_is, length-set, get_or_read, take_more_set, replicate_more}
pub use Rattle.std.proofs.lemmas.List.Concat.{flat_map-append}
pub use Rattle.std.proofs.lemmas.List.Elements.{All-push, All-replicate, All-nil, All-head, All-tail, All-cons, All-get_or, All-set}
pub use Rattle.std.proofs.lemmas.List.Folds.{list_any-append}
pub use Rattle.std.proofs.lemmas.List.Sorted.{searched}
pub use Rattle.std.proofs.lemmas.Nat.{and_block, and_mask, or_block, or_comm}
pub use Rattle.std.proofs.lemmas.Option.{same_Some, slice_get-get_or}
pub use Rattle.std.specs.Int.{w64, cast_unsigned, cast_signed}
pub use Rattle.std.specs.List.{AllByRecursion, list_any}
pub use Rattle.std.specs.List.Sorted.{IsBinarySearchResult}
pub use Rattle.std.specs.Ordering.{nat_cmp}
pub use Rattle.std.specs.Prelude.{replicate, FitsSigned, is_some, nat_lt, ◌↔◌, Result, Ok, Err, is_ok, All, if◌then◌else◌, slice_get, slice_index, IsTrue, not, bit_and, bit_or, option_map}
pub use Rattle.std.specs.Vec.{with_items}
