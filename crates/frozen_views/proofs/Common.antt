-- The names of lower crates and of the specifications that these proofs use. Declares nothing.
pub use Rattle.frozen_views.specs.Level.{Level, nearest, piece_in, place_on, level_of}
pub use Rattle.frozen_views.specs.PiecesValue.{is_among, needed, numbers_of, written_chunk, NotesChanges, PiecesValue, ShowsChunks}
pub use Rattle.object_layout.specs.Cell.{Born, Cell, Hole, Mark, Moved, size_of}
pub use Rattle.object_layout.specs.ChunkValue.{ChunkValue}
pub use Rattle.object_layout.specs.Chunks.{chunk_at, no_chunk, with_cell}
pub use Rattle.object_layout.specs.Piece.{PieceValue, frozen_from, frozen_of, is_frozen, lasts}
pub use Rattle.object_layout.specs.Place.{cell_at, put_cell}
pub use Rattle.std.proofs.Common.{◌≡◌, ℕ, zero, suc, ◌+◌, ◌-◌, ◌<◌, ◌≤◌, Bool, true, false, cond, List, [], ◌∷◌, ◌++◌, length, get_or, map, refl, sym, ap, ◌∙◌, arith, inl, inr, eqb, Option, Some, None, set, subst, ⊎_elim, length-append, nat_eq, take, rules}
pub use Rattle.std.proofs.lemmas.Bool.{cases_Bool, cases_lt, eq-eqb, eqb-true, le-ltb, lt-ltb, le-leb, lt-leb}
pub use Rattle.std.proofs.lemmas.List.{map-append, take_more, length-map}
pub use Rattle.std.proofs.lemmas.Option.{slice_get_read}
pub use Rattle.std.specs.Arc.{arc_value}
pub use Rattle.std.specs.HashMap.{get, spare}
pub use Rattle.std.specs.List.{position, position_or_len}
pub use Rattle.std.specs.Option.{option_or}
pub use Rattle.std.specs.Prelude.{insert, is_some, option_map, remove, slice_get, Err, IsOk, Ok, OnOk, Result, nat_lt, not, ◌||◌, drop, vec_len}
