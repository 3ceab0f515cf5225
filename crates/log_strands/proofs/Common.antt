-- The names of lower crates and of the specifications that these proofs use. Declares nothing.
pub use Rattle.fork_graph.specs.Graph.{strand}
pub use Rattle.fork_graph.specs.declared.graph.GraphStrand.{GraphStrand}
pub use Rattle.log_form.specs.Events.{event}
pub use Rattle.log_lines.specs.Grammar.{line_of}
pub use Rattle.log_lines.specs.Letters.{begins_with}
pub use Rattle.log_lines.specs.declared.cause.LogCause.{LogCause}
pub use Rattle.log_lines.specs.declared.line.Act.{Act}
pub use Rattle.log_lines.specs.declared.line.LogLine.{LogLine}
pub use Rattle.log_pieces.proofs.Lines.{line_more, line_last, at_some, at_none, said_of}
pub use Rattle.log_pieces.specs.Claims.{is_that}
pub use Rattle.log_pieces.specs.Pieces.{act_said, text_at, acts_in, acts_of_piece, events_in, events_of_pieces}
pub use Rattle.log_pieces.specs.declared.piece.LogPiece.{LogPiece}
pub use Rattle.log_strands.specs.Acts.{is_by, acts_by, piece_bytes, bytes_of}
pub use Rattle.log_strands.specs.Places.{is_known, StrandStandsAt, IsPlaceOf}
pub use Rattle.log_strands.specs.Table.{KnowsPlaces, place_told, noted_if}
pub use Rattle.log_strands.specs.declared.places.PlaceTable.{PlaceTable}
pub use Rattle.log_tasks.proofs.Puts.{and_left, and_right, number_same}
pub use Rattle.log_tasks.specs.Numbers.{log_strand}
pub use Rattle.log_tasks.specs.declared.tasks.LogTasks.{LogTasks}
pub use Rattle.plain_vec.proofs.Members.{got_front, got_within}
pub use Rattle.plain_vec.proofs.Places.{got_last, got_more}
pub use Rattle.std.proofs.Common.{◌≡◌, ◌<◌, ◌≤◌, ◌+◌, ◌^◌, ℕ, List, length, get_or, take, ap, slice_range, arith, ◌==◌, ◌++◌, ◌∷◌, ◌∙◌, ◌⊎◌, inl, inr, zero, suc, Bool, true, false, [], refl, sym, subst, Option, Some, None, slice_get, Result, Ok, Err, cond, nat_lt, Bor}
pub use Rattle.std.proofs.lemmas.Bool.Decides.{nat_tests}
pub use Rattle.std.proofs.lemmas.List.{length-map, length-append, take_more, take_all, length-take-le, length_push}
pub use Rattle.std.proofs.lemmas.List.Concat.{length-flat_map}
pub use Rattle.std.proofs.lemmas.List.Elements.{filter-append}
pub use Rattle.std.proofs.lemmas.List.Sums.{sum_by_more_le, sum_by-append, sum_by-cons}
pub use Rattle.std.proofs.lemmas.Option.{get_or_from_slice_get}
pub use Rattle.std.specs.List.{sum_by, flat_map, slice_split, onto_first}
pub use Rattle.std.specs.Option.{option_copied}
pub use Rattle.std.specs.Prelude.{if◌then◌else◌, filter, MatchOption}
pub use Rattle.text_lines.specs.Lines.{lines_of}
