-- The names of lower crates and of the specifications that these proofs use. Declares nothing.
pub use Rattle.hh_lang.specs.Form.{ProgramText}
pub use Rattle.hh_lang.specs.declared.program.Fun.{Fun}
pub use Rattle.hh_lang.specs.declared.program.Line.{Line}
pub use Rattle.hh_model.specs.declared.data.End.TheVariants.{Done, Trapped, Entangled}
pub use Rattle.log_form.specs.Events.{Event, Spot, spot_behind, spot_behind_said, spot_behind_all, file_begin}
pub use Rattle.log_form.specs.Text.{lines_in, text_of, all_but_last, is_zero}
pub use Rattle.log_lines.proofs.Again.{number_again, line_again}
pub use Rattle.log_lines.proofs.Pieces.{left_by}
pub use Rattle.log_lines.specs.Grammar.{line_of, line_of_words, act_of_access, place_at}
pub use Rattle.log_lines.specs.Limits.{IsLogNumber, IsSite, IsLogPlace, IsAccess, IsLogReference, IsAct, IsLine}
pub use Rattle.log_lines.specs.Words.{is_space, words_of, site_at, has_word}
pub use Rattle.log_lines.specs.Writing.{site_words, line_bytes, act_words, access_word, place_words, reference_words}
pub use Rattle.log_lines.specs.declared.cause.LogCause.{LogCause}
pub use Rattle.log_lines.specs.declared.line.Access.{Access}
pub use Rattle.log_lines.specs.declared.line.AccessKind.{AccessKind}
pub use Rattle.log_lines.specs.declared.line.Act.{Act}
pub use Rattle.log_lines.specs.declared.line.LogLine.{LogLine}
pub use Rattle.log_lines.specs.declared.line.LogPlace.{LogPlace}
pub use Rattle.log_lines.specs.declared.line.Reference.{Reference}
pub use Rattle.log_text_laws.specs.Names.{AllFunctionsNamed, names_at, names_in, name_lines, IsInsideLine, HasName}
pub use Rattle.log_text_laws.specs.Text.{IsReadAsLines, lines_in_log, LogsAreReadAgain, LogsAreToldAgain, LogsAreCutUnlessDone}
pub use Rattle.run_journal.specs.below.run_ledger.{RunEnd, Machine, end_of, Fuel, Pool}
pub use Rattle.run_journal.specs.below.run_trace.{EntryValue, SettingsValue, spaced}
pub use Rattle.run_log.specs.Log.{end_lines, lines_of}
pub use Rattle.run_log.specs.Sites.{accesses_field, name_line, site_line, function_sites, sites_of}
pub use Rattle.run_log.specs.Writing.{line_text, act_text, site_text, spaced_numbers, is_location, place_text, access_text, access_letter, reference_text, letter_text, written, all_written}
pub use Rattle.run_turn_laws.proofs.Legal.{lines_unclosed}
pub use Rattle.run_turn_laws.proofs.Told.{spot_both}
pub use Rattle.run_turn_laws.specs.Events.{spot_after, events_told}
pub use Rattle.std.proofs.Common.{◌≡◌, ◌<◌, ◌≤◌, ◌+◌, ◌*◌, ◌^◌, ◌==◌, ℕ, zero, suc, Bool, true, false, List, [], ◌∷◌, ◌++◌, length, arith, refl, ap, sym, ◌∙◌, cond, Option, Some, None, Ok, append-nil, append_assoc, map, nat_le, ◌-◌, subst, Result, ◌≢◌, not, get_or, take, ne_eqb}
pub use Rattle.std.proofs.Math.Nat.{mul_comm, le-mul_of_pos_right}
pub use Rattle.std.proofs.lemmas.Bool.{and_parts, eqb-true, cases_Bool}
pub use Rattle.std.proofs.lemmas.Bool.Decides.{nat_tests}
pub use Rattle.std.proofs.lemmas.Fmt.{decimal_is_IsNumeral, decimal_digit}
pub use Rattle.std.proofs.lemmas.Grind.{flat_map-append}
pub use Rattle.std.proofs.lemmas.List.{take_all, map-append}
pub use Rattle.std.proofs.lemmas.List.Elements.{All-from_recursion, recursion_from_All}
pub use Rattle.std.proofs.lemmas.List.Splits.{slice_split_at, slice_split_none}
pub use Rattle.std.proofs.lemmas.List.Sums.{position_or_len_is}
pub use Rattle.std.specs.Char.{digit_value}
pub use Rattle.std.specs.Fmt.{decimal}
pub use Rattle.std.specs.List.{All, AllByRecursion, slice_split, flat_map, before_first, position_or_len}
pub use Rattle.std.specs.Prelude.{codes, ◌&&◌, ◌||◌, ◌↔◌}
pub use Rattle.std.specs.Str.Parse.{AllDigits}
pub use Rattle.text_lines.proofs.Last.{some_line}
pub use Rattle.text_lines.specs.Lines.{is_last}
