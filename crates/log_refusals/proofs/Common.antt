-- The names of lower crates and of the specifications that these proofs use. Declares nothing.
pub use Rattle.fork_graph.specs.declared.graph.GraphStrand.{GraphStrand}
pub use Rattle.log_form.specs.Events.{Event, Spot, spot_behind_act, spot_behind_said, spot_behind_all, file_begin, file_end, events_behind}
pub use Rattle.log_form.specs.Text.{lines_in, all_but_last}
pub use Rattle.log_form.specs.declared.fault.LogPosition.{LogPosition}
pub use Rattle.log_lines.specs.Grammar.{line_of}
pub use Rattle.log_lines.specs.declared.cause.LogCause.{LogCause}
pub use Rattle.log_lines.specs.declared.line.Act.{Act}
pub use Rattle.log_lines.specs.declared.line.LogLine.{LogLine}
pub use Rattle.log_refusals.specs.Placed.{Placed, position, placed_act, placed_said, placed_lines, placed_files, here_behind_act, here_behind, EventsHaveLines, later_of}
pub use Rattle.log_refusals.specs.Search.{open_strand, IsUpTo}
pub use Rattle.log_refusals.specs.Texts.{place_text}
pub use Rattle.std.proofs.Common.{◌≡◌, ◌∙◌, ℕ, ◌+◌, List, [], ◌∷◌, ◌++◌, map, refl, ap, sym, append-nil, append_assoc, Option, Some, None, Result, Ok, Err, ◌<◌, suc, length, drop, drop-cons, add-one, get_or, subst, fold, arith, false, codes, slice_index_or, ◌^◌, ◌≤◌, Bor, option_map, string_bytes, Global}
pub use Rattle.std.proofs.lemmas.List.{map-append, drop_all}
pub use Rattle.std.proofs.lemmas.List.Sums.{fold-append}
pub use Rattle.std.proofs.lemmas.Result.{IfOk-weaker}
pub use Rattle.std.specs.Fmt.{decimal}
pub use Rattle.std.specs.Prelude.{MatchOption}
pub use Rattle.text_lines.proofs.Last.{some_line}
pub use Rattle.text_lines.specs.Lines.{is_last, lines_of}
