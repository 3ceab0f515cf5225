-- The names of lower crates and of the specifications that these proofs use. Declares nothing.
pub use Rattle.act_lines.specs.ActLines.{act_line_at, act_lines_from, act_lines_behind, act_lines}
pub use Rattle.act_lines.specs.Laws.{LinesSayWhatHappens}
pub use Rattle.act_lines.specs.Search.{HasFound, IsSearch}
pub use Rattle.act_lines.specs.declared.find.Search.{Search}
pub use Rattle.act_lines.specs.declared.line.ActLine.{ActLine}
pub use Rattle.fork_graph.specs.declared.graph.GraphStrand.{GraphStrand}
pub use Rattle.log_form.specs.Events.{Event, Spot, event, spot_behind_act, spot_behind_said, spot_behind_all, file_begin, file_end, events_behind}
pub use Rattle.log_form.specs.Faults.{where_true, act_fault, said_fault, line_fault, first_fault, found_at, fault_from, fault_of_lines, or_later, fault_behind}
pub use Rattle.log_form.specs.Text.{lines_in, all_but_last}
pub use Rattle.log_form.specs.declared.fault.LocatedFault.{LocatedFault}
pub use Rattle.log_form.specs.declared.fault.LogFault.{LogFault}
pub use Rattle.log_form.specs.declared.fault.LogPosition.{LogPosition}
pub use Rattle.log_lines.specs.Grammar.{line_of}
pub use Rattle.log_lines.specs.declared.cause.LogCause.{LogCause}
pub use Rattle.log_lines.specs.declared.line.Act.{Act}
pub use Rattle.log_lines.specs.declared.line.LogLine.{LogLine}
pub use Rattle.plain_vec.proofs.Members.{got_within, got_past, got_front}
pub use Rattle.plain_vec.proofs.Options.{some_none}
pub use Rattle.plain_vec.proofs.Places.{got_last, got_none}
pub use Rattle.std.proofs.Common.{◌≡◌, ◌<◌, ◌+◌, ◌++◌, ◌∷◌, ◌∙◌, ℕ, false, Option, Some, None, List, [], length, drop, get_or, refl, sym, ap, subst, Bool, true, Result, Ok, Err, map, ◌≤◌, suc, slice_get, inl, inr, arith, IfSome, Bor, ◌-◌}
pub use Rattle.std.proofs.lemmas.Bool.{false≢true, cases_lt}
pub use Rattle.std.proofs.lemmas.List.{append_assoc, append-nil, drop_more, map-append, length-append, drop_all, get_or_read}
pub use Rattle.std.proofs.lemmas.List.Kept.{AllPairs-from_increasing}
pub use Rattle.std.proofs.lemmas.Option.{same_Some, get_or_from_slice_get}
pub use Rattle.std.proofs.lemmas.Result.{on_ok_weaker, IfOk-weaker}
pub use Rattle.std.specs.List.Sorted.{IsStrictlyIncreasing}
pub use Rattle.std.specs.Prelude.{MatchOption}
pub use Rattle.text_lines.proofs.Last.{some_line}
pub use Rattle.text_lines.specs.Lines.{lines_of, is_last}
