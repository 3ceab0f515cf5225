-- The names of lower crates and of the specifications that these proofs use. Declares nothing.
pub use Rattle.fork_graph.specs.Graph.{strand}
pub use Rattle.fork_graph.specs.declared.graph.GraphStrand.{GraphStrand}
pub use Rattle.log_form.specs.Events.{Spot, spot_behind_said, spot_behind_all, Event, event, is_on, is_last, has_ended, file_begin, file_end, events_behind, events_of, is_cut_behind, is_cut, strand_behind, spot_behind_act, spot_behind}
pub use Rattle.log_form.specs.Faults.{line_fault, fault_from, found_at, spawns, bears, releases, is_born, is_released, first_fault, fault_of_lines, or_later, fault_behind, log_fault}
pub use Rattle.log_form.specs.Text.{lines_in, all_but_last}
pub use Rattle.log_form.specs.declared.fault.LocatedFault.{LocatedFault}
pub use Rattle.log_form.specs.declared.fault.LogFault.{LogFault}
pub use Rattle.log_lines.proofs.Letters.{letters_tell}
pub use Rattle.log_lines.specs.Grammar.{line_of}
pub use Rattle.log_lines.specs.Letters.{is_among, begins_with, letter_of, HasOneOf}
pub use Rattle.log_lines.specs.declared.cause.LogCause.{LogCause}
pub use Rattle.log_lines.specs.declared.line.Act.{Act}
pub use Rattle.log_lines.specs.declared.line.LogLine.{LogLine}
pub use Rattle.log_pieces.specs.Claims.{ClaimsHold, is_pair, is_that}
pub use Rattle.log_pieces.specs.LineWalk.{IsAtSpot, open_place, cut_of, cut_behind_said, with_piece, Cut, turned, cut_behind_act, cut_behind, OpenStrandIsSmall}
pub use Rattle.log_pieces.specs.Pieces.{text_at, events_of_pieces, Cuts, IsLineAt, act_said, acts_in, on_strand, events_in, events_open, BeginsLine, IsBegun}
pub use Rattle.log_pieces.specs.declared.claims.Claims.{Claims}
pub use Rattle.log_pieces.specs.declared.piece.LogPiece.{LogPiece}
pub use Rattle.log_pieces.specs.declared.walk.LineWalk.{LineWalk}
pub use Rattle.log_pieces.specs.declared.walk.OpenStrand.{OpenStrand}
pub use Rattle.std.proofs.Common.{◌≡◌, ◌<◌, ◌≤◌, ◌+◌, ℕ, List, [], ◌∷◌, length, drop, refl, ap, sym, subst, ◌∙◌, slice_range, arith, Option, Some, None, ◌==◌, Bool, true, false, ◌++◌, cond, not, nat_eq, ◌||◌, append-nil, drop-cons, get_or, map, Result, Ok, Err, IfOk, suc, ◌-◌, take, append_assoc, nat_lt, IfSome, inl, inr, ◌⊎◌, zero, eqb-true}
pub use Rattle.std.proofs.Math.Seq.{take-add, take-append-add}
pub use Rattle.std.proofs.lemmas.Bool.{cases_lt}
pub use Rattle.std.proofs.lemmas.Bool.Decides.{nat_tests}
pub use Rattle.std.proofs.lemmas.Grind.{flat_map-append}
pub use Rattle.std.proofs.lemmas.List.{drop_all, length-drop, take_all, take_more, drop-drop, length-take, take-append-drop, get_or-take, get_or_read}
pub use Rattle.std.proofs.lemmas.List.Splits.{slice_split_none}
pub use Rattle.std.proofs.lemmas.List.Sums.{passes_at_first, fails_before_first}
pub use Rattle.std.specs.HashSet.{contains}
pub use Rattle.std.specs.List.{list_any, flat_map, slice_split, onto_first, position_or_len, All}
pub use Rattle.std.specs.Prelude.{option_map, ◌&&◌, MatchOption}
pub use Rattle.text_lines.proofs.Runs.{split_last}
pub use Rattle.text_lines.specs.Lines.{lines_of}
