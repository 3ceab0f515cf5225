-- The names of lower crates and of the specifications that these proofs use. Declares nothing.
pub use Rattle.fork_graph.specs.Graph.{strand}
pub use Rattle.fork_graph.specs.declared.graph.GraphStrand.{GraphStrand}
pub use Rattle.log_form.specs.Events.{Event, event, is_on}
pub use Rattle.log_lines.proofs.Within.{lines_within}
pub use Rattle.log_lines.specs.Grammar.{line_of}
pub use Rattle.log_lines.specs.Limits.{IsAct, IsLine}
pub use Rattle.log_lines.specs.declared.cause.LogCause.{LogCause}
pub use Rattle.log_lines.specs.declared.line.Act.{Act}
pub use Rattle.log_lines.specs.declared.line.LogLine.{LogLine}
pub use Rattle.log_pieces.proofs.Lines.{at_some, at_none, line_more, line_last, said_first}
pub use Rattle.log_pieces.specs.Claims.{is_that, is_pair}
pub use Rattle.log_pieces.specs.Pieces.{acts_of_piece, events_in, events_of_pieces, on_strand, act_said, acts_in}
pub use Rattle.log_pieces.specs.declared.piece.LogPiece.{LogPiece}
pub use Rattle.log_places.proofs.Along.{marked_are_cut}
pub use Rattle.log_places.specs.Counting.{AreMarked}
pub use Rattle.log_places.specs.Places.{IsRegionCut}
pub use Rattle.log_places.specs.declared.region.Region.{Region}
pub use Rattle.log_touches.specs.Accesses.{touches_of_act, touches_from, regions_of_act, regions_of_acts, access_of, touch_by, touches_of_access}
pub use Rattle.log_touches.specs.Chains.{firsts_from, next_on, LogPiecesValue}
pub use Rattle.log_touches.specs.Limits.{AreTooMany, most_acts}
pub use Rattle.log_touches.specs.Strands.{numbered_from, touches_behind, regions_of_events, touches_on}
pub use Rattle.log_touches.specs.declared.access.ActAccess.{ActAccess}
pub use Rattle.log_touches.specs.declared.numbers.RacesError.{RacesError}
pub use Rattle.log_touches.specs.declared.numbers.RacesError.TheVariants.{TooManyStretches, TooLong, NoMemory}
pub use Rattle.plain_vec.proofs.Members.{got_other, In, in_flat, flat_in, got_in, in_append_left, in_append_right, got_within}
pub use Rattle.plain_vec.proofs.Options.{none_some}
pub use Rattle.plain_vec.proofs.Places.{got_set, in_map, all_from, map_in, read_in, got_some}
pub use Rattle.race_scan.specs.Scan.{HasScanned}
pub use Rattle.race_scan.specs.Touches.{plain_write, touch_of, touches_of_release}
pub use Rattle.race_scan.specs.declared.touch.Touch.{Touch}
pub use Rattle.std.proofs.Common.{◌≡◌, ◌<◌, ◌≤◌, ◌+◌, ◌++◌, ◌∷◌, ◌∙◌, ℕ, zero, suc, Bool, true, false, cond, List, [], length, take, drop, slice_get, Option, Some, None, IfSome, refl, sym, ap, subst, arith, ◌-◌, slice_set, inl, inr, ◌==◌, get_or, All, Result, Ok, Err, append-nil, IfErr, Bor}
pub use Rattle.std.proofs.lemmas.Bool.{cases_lt, and_parts, eqb-true}
pub use Rattle.std.proofs.lemmas.Grind.{flat_map-append}
pub use Rattle.std.proofs.lemmas.List.{length-append, length-map, take-append-drop, length-drop, append_assoc, length-set}
pub use Rattle.std.proofs.lemmas.List.Elements.{filter-append}
pub use Rattle.std.proofs.lemmas.Option.{same_Some, slice_get-get_or}
pub use Rattle.std.proofs.lemmas.Result.{on_ok_weaker, err_from_is_err_and}
pub use Rattle.std.specs.HashMap.{get}
pub use Rattle.std.specs.List.{flat_map}
pub use Rattle.std.specs.Prelude.{filter, IfOk, option_map, option_to_list}
