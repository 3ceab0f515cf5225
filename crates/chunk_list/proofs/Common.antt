-- The names of lower crates and of the specifications that these proofs use. Declares nothing.
pub use Rattle.chunk_list.specs.View.{Level, level_in, level_of, levels_above, levels_in, nearest, piece_in}
pub use Rattle.frozen_views.proofs.Levels.{or_none}
pub use Rattle.frozen_views.specs.PiecesValue.{is_among, needed, PiecesValue, ShowsChunks}
pub use Rattle.object_layout.specs.ChunkValue.{ChunkValue}
pub use Rattle.object_layout.specs.Chunks.{place_in, chunk_position}
pub use Rattle.object_layout.specs.Piece.{PieceValue, frozen_of}
pub use Rattle.std.proofs.Common.{◌≡◌, rules, ℕ, zero, suc, replicate, ◌+◌, ◌-◌, ◌<◌, ◌≤◌, Bool, true, false, cond, List, [], ◌∷◌, ◌++◌, get_or, length, refl, sym, take, ap, ◌∙◌, suc, subst, arith, inl, inr, ⊎_elim, eqb, Option, Some, None, map, drop}
pub use Rattle.std.proofs.lemmas.Bool.{cases_Bool, cases_lt, eqb-true, le-ltb}
pub use Rattle.std.proofs.lemmas.List.{take_more, drop_at, take_at}
pub use Rattle.std.proofs.lemmas.Result.{on_ok_weaker}
pub use Rattle.std.specs.Arc.{arc_value}
pub use Rattle.std.specs.Option.{option_or}
pub use Rattle.std.specs.Prelude.{option_map, Err, Ok, OnErr, OnOk, Result, ◌||◌, vec_len}
