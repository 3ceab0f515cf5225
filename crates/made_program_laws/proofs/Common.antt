-- The names of lower crates and of the specifications that these proofs use. Declares nothing.
pub use Rattle.hh_lang.proofs.Tests.{numeral_passes, positive, unsigned}
pub use Rattle.hh_lang.specs.Number.{signed_number, fits_i64}
pub use Rattle.made_program_laws.specs.Laws.{MadeArePrograms}
pub use Rattle.program_make.proofs.Lengths.{amount_small, garbage_small, rounds_small, side_small}
pub use Rattle.program_make.specs.Draws.{value_after, amount, garbage, rounds}
pub use Rattle.program_make.specs.Text.{side, made_text, main_text, children_lines, first_functions, first_lines, function_text, last_lines, numbered, par_line}
pub use Rattle.program_reader.proofs.Passing.{begins_none, new_entry, none_begin, Within, begin_free, end_free, has_place, is_instr, is_order, is_read, label_passes, not_last, orders_pass, passes, blank_free}
pub use Rattle.program_reader.specs.Around.{begun_above, is_inside, noted_if, no_names, operands_of_line, orders_above, outline_above, outline_line, outline_of, outline_onto, head_of_line}
pub use Rattle.program_reader.specs.Fault.{first_fault_from, spot_of, first_fault}
pub use Rattle.program_reader.specs.Head.{operands_of}
pub use Rattle.program_reader.specs.Laws.{turned}
pub use Rattle.program_reader.specs.Names.{NotedName, noted_name_of, is_noted, is_name, with_name, name_index, is_name_byte}
pub use Rattle.program_reader.specs.Operands.{int_register}
pub use Rattle.program_reader.specs.Program.{program_of, unless_refused}
pub use Rattle.program_reader.specs.Sense.{only_name, fork, plain, sense_of, two, call}
pub use Rattle.run_trace.proofs.TraceLine.{spaced_utf8}
pub use Rattle.run_trace.proofs.Words.{words_spaced, AreProper, IsProper, decimal_is_proper, line_first}
pub use Rattle.run_trace.specs.Line.{spaced}
pub use Rattle.std.proofs.Common.{◌≡◌, ◌≤◌, ◌<◌, ◌+◌, ◌*◌, ◌++◌, ℕ, zero, suc, Bool, true, false, List, [], ◌∷◌, length, arith, refl, ap, ◌∙◌, append_assoc, nat_lt, ◌||◌, ◌&&◌, nat_le, sym, ◌^◌, true≢false, cond}
pub use Rattle.std.proofs.Math.Bool.{or-false, or-true, or_assoc}
pub use Rattle.std.proofs.lemmas.Bool.{lt-ltb, and_parts, ltb-true, and_from}
pub use Rattle.std.proofs.lemmas.Fmt.{decimal_digit, decimal_is_IsNumeral, decimal_injective, length-decimal-le}
pub use Rattle.std.proofs.lemmas.List.Elements.{All-from_recursion}
pub use Rattle.std.proofs.lemmas.Slice.Eq.{bytes_eq-Decides}
pub use Rattle.std.proofs.lemmas.Str.{is_utf8-from_IsUtf8, IsUtf8-from_ascii}
pub use Rattle.std.proofs.lemmas.Str.Ascii.{IsAscii-from_all}
pub use Rattle.std.specs.Char.{digit_value}
pub use Rattle.std.specs.Fmt.{decimal}
pub use Rattle.std.specs.List.{list_all, AllByRecursion, list_any}
pub use Rattle.std.specs.Prelude.{Some, codes, Option, pos, ℤ, None}
pub use Rattle.std.specs.Str.{bytes_eq, is_utf8}
pub use Rattle.std.specs.Str.Parse.{IsNumeral, AllDigits, digits_value}
pub use Rattle.text_lines.specs.Lines.{lines_of, is_last}
