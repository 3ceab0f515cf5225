-- The names of lower crates and of the specifications that these proofs use. Declares nothing.
pub use Rattle.hh_lang.proofs.Tests.{numeral_passes, passed_numeral}
pub use Rattle.hh_lang.specs.Number.{is_numeral}
pub use Rattle.run_trace.specs.Entry.{EntryValue, IsEntry, IsKind}
pub use Rattle.run_trace.specs.Line.{unsigned_number, trace_line, spaced, entry_line, numbers_in, kind_of_words, kind_by, entry_by, said_by_words, kind_name, kind_words}
pub use Rattle.run_trace.specs.Settings.{version_number}
pub use Rattle.run_trace.specs.Trace.{version_of, version_of_words, first_bad, entries_in, fault_in, trace_fault, AreTraceLines, IsTraceText, trace_text, version_line}
pub use Rattle.run_trace.specs.TraceLaw.{TextsAreReadAgain}
pub use Rattle.run_trace.specs.declared.entry.Kind.{Kind}
pub use Rattle.run_trace.specs.declared.entry.Kind.TheVariants.{Took, Ran, Chunk, Begin, End, PutOff, Mark, More, Sweep, Fuel}
pub use Rattle.run_trace.specs.declared.line.TraceLine.TheVariants.{Nothing, Says}
pub use Rattle.run_trace.specs.declared.settings.Version.{Version}
pub use Rattle.run_trace.specs.declared.settings.Version.TheVariants.{One, Two}
pub use Rattle.run_trace.specs.declared.trace.Trace.{Trace}
pub use Rattle.std.proofs.Common.{◌≡◌, ◌<◌, ◌^◌, ℕ, Bool, true, false, List, cond, arith, refl, ap, ◌+◌, [], ◌∷◌, sym, subst, ◌∙◌, ◌≤◌, ◌++◌, length, filter, append_assoc, take}
pub use Rattle.std.proofs.lemmas.Bool.{and_parts}
pub use Rattle.std.proofs.lemmas.Fmt.{decimal_digit, decimal_is_IsNumeral}
pub use Rattle.std.proofs.lemmas.List.Elements.{All-head, All-tail, All-nil, All-from_recursion, All-append}
pub use Rattle.std.proofs.lemmas.List.Splits.{slice_split_at, slice_split_none}
pub use Rattle.std.proofs.lemmas.Str.{is_utf8-from_IsUtf8, IsUtf8-nil, IsUtf8-from_ascii}
pub use Rattle.std.proofs.lemmas.Str.Ascii.{IsAscii-from_all}
pub use Rattle.std.specs.Char.{digit_value}
pub use Rattle.std.specs.Fmt.{decimal}
pub use Rattle.std.specs.List.{All, flat_map, AllByRecursion, slice_split}
pub use Rattle.std.specs.Prelude.{◌&&◌, nat_lt, Option, Some, None, SomeIff, codes, nat_le, ◌==◌}
pub use Rattle.std.specs.Str.{is_utf8}
pub use Rattle.std.specs.Str.Parse.{IsNumeral, digits_value, AllDigits}
pub use Rattle.text_lines.proofs.Utf8.{not_utf8}
pub use Rattle.text_lines.specs.Lines.{lines_of, is_blank, is_word, runs_of, words_of, before_comment}
