-- The names of lower crates and of the specifications that these proofs use. Declares nothing.
pub use Rattle.clap.proofs.ValueTestLemmas.{accepts-Accepts}
pub use Rattle.clap.proofs.WalkLemmas.{first_value-rows, one_text-rows}
pub use Rattle.clap.specs.Facts.{explicit_source, unwrap_or_range, parser_of_value}
pub use Rattle.clap.specs.Faults.{bundle_fault, flag_word_fault, level_fault, step_fault, turn_fault, word_fault, check_fault, positional_fault, settle_fault, stray_fault, action_fault, default_fault, bundle_step_fault, given_default_fault, long_fault, option_fault, other_fault, react_fault, set_fault, short_fault, use_fault, values_fault, entered_fault, fault_of, is_simple_and_free}
pub use Rattle.clap.specs.Kinds.{Kinds, or_else, range_kinds, value_kinds, request_kinds, IsAmong, HasKind}
pub use Rattle.clap.specs.Lexer.{long_of, long_of_rest, short_of, short_of_rest, strip_byte}
pub use Rattle.clap.specs.Simple.{Shape, built, entered, is_simple, label_of, names_of, rows_at, subcommand_of}
pub use Rattle.clap.specs.Takes.{is_given, value_passes}
pub use Rattle.clap.specs.ValueTests.{is_unsigned_in, accepts}
pub use Rattle.clap.specs.Values.{refused_kind, read_as}
pub use Rattle.clap.specs.Walk.{Held, Rule, Step, Text, Walk, after_step, finished, is_empty, long_or_other, nothing_held, option, plain_word, rows_after, short_or_plain, trailing, walk_from, word_met, Row, arg_by_index, idle, settled, to_positional, value, Names, Outcome, Waiting, action_of, after_flag, arg_by_id, arg_by_long, arg_by_short, at_row, attached_value, bundle_step, default_rows, flag_met, has_row, is_pending, long_met, more_values, most_values, one_of, option_met, option_word, positional_held, pushed, reacted, reading_by, row_text, settled_rows, short_met, subcommand_met, subcommand_or_other, takes_several, takes_values, used, used_as, values_or_missing, walk, with_default, with_values, without, used_by_id, bundle, walked_from, next, subcommand, done, waits, plain, refused, positional, answers_to, stop_after}
pub use Rattle.clap.specs.Words.{IsUnsignedIn, ReadsOne, App, app_of, with_subcommand, found_of, HasMatchesOf, subcommand_rows_of, rows_of}
pub use Rattle.clap.specs.declared.builder.action.ArgAction.{ArgAction}
pub use Rattle.clap.specs.declared.builder.action.ArgAction.TheVariants.{Set, SetTrue}
pub use Rattle.clap.specs.declared.builder.command.Command.{Command}
pub use Rattle.clap.specs.declared.builder.value_parser.Reading.{Reading}
pub use Rattle.clap.specs.declared.builder.value_parser.Reading.TheVariants.{AsWritten}
pub use Rattle.clap.specs.declared.error.kind.ErrorKind.{ErrorKind}
pub use Rattle.clap.specs.declared.parser.matches.ValueSource.{ValueSource}
pub use Rattle.clap.specs.declared.parser.matches.ValueSource.TheVariants.{CommandLine, DefaultValue}
pub use Rattle.command_line.specs.Adds.{SubcommandIsShaped}
pub use Rattle.command_line.specs.App.{app}
pub use Rattle.command_line.specs.CommandLine.{file_in, options_in, asked_command, command_line, settings_in, HasSize, flag_in, number_in}
pub use Rattle.command_line.specs.Examples.{usual_options, FilesAreNamed, NumbersAreRead, OptionsAreRead, OthersAreRefused}
pub use Rattle.command_line.specs.Operands.{IsOperand, Sets, AsksForMake}
pub use Rattle.command_line.specs.Values.{FitsCommand, FitsFound, ArgumentIsNumber, HasSettings, HasFlag, HasOptions}
pub use Rattle.command_line.specs.declared.line.CommandLine.TheVariants.{Check, Run, Replay, Model, Races, Image, Make, Verify}
pub use Rattle.command_line.specs.declared.line.Options.{Options}
pub use Rattle.run_trace.specs.Settings.{SettingsValue, usual_settings, AreSettings}
pub use Rattle.std.proofs.Common.{◌≡◌, ◌∙◌, ℕ, Bool, cond, codes, true, false, refl, ap, ap₂, List, [], ◌∷◌, Option, Some, None, Result, Ok, Err, arith, ◌&&◌, sym, true≢false, is_some, ◌≤◌, ◌<◌, ◌+◌, ◌++◌, ◌||◌, ◌⊎◌, ◌==◌, not, zero, suc, subst, inl, inr, length, drop, nat_lt, map, string_bytes, Global}
pub use Rattle.std.proofs.lemmas.Bool.{and_parts, not-true}
pub use Rattle.std.proofs.lemmas.List.{length-append}
pub use Rattle.std.proofs.lemmas.Result.{IfOk-weaker}
pub use Rattle.std.proofs.lemmas.Slice.Eq.{bytes_eq-Decides}
pub use Rattle.std.specs.List.{list_any}
pub use Rattle.std.specs.Option.{option_map_or, option_map}
pub use Rattle.std.specs.Prelude.{unwrap_or, option_and_then, fold, ⊤, find, slice_get, encode_utf8}
pub use Rattle.std.specs.Str.{bytes_eq, chars}
pub use Rattle.std.specs.Str.Parse.{digits_value, without_leading_plus, ParsesUnsigned, ExplainsUnsignedError, HasUnsignedDigitsIfOk}
