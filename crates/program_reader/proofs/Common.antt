-- The names of lower crates and of the specifications that these proofs use. Declares nothing.
pub use Rattle.hh_lang.proofs.Tests.{numeral_passes, passed_numeral}
pub use Rattle.hh_lang.specs.Form.{IsProgram, code_of, NamesExist, IsFunction, EndsWithReturn}
pub use Rattle.hh_lang.specs.Loop.{instrs_of, whole_code, left_code, right_code}
pub use Rattle.hh_lang.specs.Number.{is_numeral, signed_number}
pub use Rattle.hh_lang.specs.declared.instr.Instr.{Instr}
pub use Rattle.hh_lang.specs.declared.instr.Instr.TheVariants.{Ret}
pub use Rattle.hh_lang.specs.declared.program.Fun.{Fun}
pub use Rattle.hh_lang.specs.declared.program.Line.{Line}
pub use Rattle.indexmap.proofs.CallerLemmas.{insert_entry-new}
pub use Rattle.indexmap.specs.IndexMap.{IndexMap, insert_entry}
pub use Rattle.plain_vec.proofs.Members.{got_back, got_front}
pub use Rattle.plain_vec.proofs.Numbers.{above_zero}
pub use Rattle.plain_vec.proofs.Options.{none_of}
pub use Rattle.plain_vec.proofs.Places.{got_some}
pub use Rattle.program_reader.specs.Around.{head_of_line, operands_of_line, outline_of, label_line, labels_onto, ends_body, begun_name, noted_if, outline_line, outline_above, outline_onto, no_labels, looped_name, is_inside, is_open_after, labels_above, labels_after, begins, begun_above, orders, orders_above}
pub use Rattle.program_reader.specs.Fault.{LineContext, is_misplaced, has_wrong_operand, leaves_open, is_second, names_no_function, names_no_label, lacks_main, is_too_many, first_cause, line_cause, fault_on, first_fault, spot_of, first_fault_from, or_later_fault, is_named_in, is_begin}
pub use Rattle.program_reader.specs.Laws.{turned}
pub use Rattle.program_reader.specs.LoopLaw.{LoopsAreRead}
pub use Rattle.program_reader.specs.Names.{is_noted, NotedName, with_name, name_index, noted_name_of, is_name, numbered_of}
pub use Rattle.program_reader.specs.Operands.{field_count, int_register, ref_register}
pub use Rattle.program_reader.specs.Program.{functions_from, program_of, unless_refused, reading_of, loop_functions, loops_from, on_line, function_of, loop_from, function_number, with_function, code_from, line_of, code_by}
pub use Rattle.program_reader.specs.Reading.{spot_in, after_begin, after_line, line_taken, program_in, after_order, nothing_read, after_end}
pub use Rattle.program_reader.specs.Sense.{sense_of, OutlineIsSmall, only_name, loop_function, looping, sense_of_name, one, two, three, five, plain, plain_one, plain_two, plain_three, plain_five, at_label, jump_on_zero, calling, forking, order_alone, order_one, order_two, ordered_sense, alone}
pub use Rattle.program_reader.specs.declared.cause.Cause.{Cause}
pub use Rattle.program_reader.specs.declared.cause.Cause.TheVariants.{NotUtf8, Word, Operand, NoEnd, TwoNames, NoName, NoLabel, NoMain, TooMany}
pub use Rattle.program_reader.specs.declared.cause.TextFault.{TextFault}
pub use Rattle.program_reader.specs.declared.head.Head.{Head}
pub use Rattle.program_reader.specs.declared.head.Head.TheVariants.{Begin, Label, Order, Blank, End, Unknown}
pub use Rattle.program_reader.specs.declared.head.Verb.{Verb}
pub use Rattle.program_reader.specs.declared.head.Verb.TheVariants.{Set, Mov, Movr, Nil, Calc, Same, Jmp, Jz, Newm, Pack, Getr, Geti, Putr, Puti, Cntr, Cnti, Freeze, Cas, Call, Par, Pfor, Out}
pub use Rattle.program_reader.specs.declared.labels.Labels.{Labels}
pub use Rattle.program_reader.specs.declared.reader.Reader.{Reader}
pub use Rattle.program_reader.specs.declared.sense.Outline.{Outline}
pub use Rattle.program_reader.specs.declared.sense.Sense.{Sense}
pub use Rattle.program_reader.specs.declared.sense.Sense.TheVariants.{WrongOperand, Fits, Does, NoSuchFunction, NoSuchLabel}
pub use Rattle.std.proofs.Common.{◌≡◌, ℕ, Bool, true, false, cond, List, refl, ap, sym, ◌∙◌, Some, None, ◌<◌, ◌≤◌, ◌^◌, arith, ◌&&◌, ◌+◌, ◌++◌, [], ◌∷◌, length, take, drop, subst, nat_lt, nat_eq, get_or, append_assoc, ◌*◌, zero, suc, length-append, map, ◌||◌, true≢false, not, Bor, eq-eqb, ◌-◌}
pub use Rattle.std.proofs.lemmas.Bool.{and_parts, and_left, both_ways, ne_eqb}
pub use Rattle.std.proofs.lemmas.List.{drop_all, take_all, drop_more, append-nil, map-append, length_push, length-drop}
pub use Rattle.std.proofs.lemmas.List.Elements.{All-nil, All-push, All-append}
pub use Rattle.std.proofs.lemmas.List.Quantifiers.{position-Some}
pub use Rattle.std.proofs.lemmas.List.Splits.{slice_split_first}
pub use Rattle.std.proofs.lemmas.Option.{slice_get-get_or, get_or_from_slice_get}
pub use Rattle.std.proofs.lemmas.Result.{IfOk-weaker}
pub use Rattle.std.proofs.lemmas.Slice.Eq.{bytes_eq-Decides}
pub use Rattle.std.proofs.lemmas.Str.{is_utf8-from_IsUtf8}
pub use Rattle.std.specs.List.{position_or_len, list_all, All, list_any}
pub use Rattle.std.specs.Map.{keys_of, lookup}
pub use Rattle.std.specs.Option.{unwrap_or}
pub use Rattle.std.specs.Prelude.{Option, nat_le, SomeIff, IfNone, ◌==◌, codes, slice_get, MatchOption, is_some, position, IsSomeAnd}
pub use Rattle.std.specs.Str.{is_utf8, bytes_eq}
pub use Rattle.std.specs.Str.Parse.{IsNumeral, digits_value}
pub use Rattle.text_lines.proofs.Last.{some_line}
pub use Rattle.text_lines.proofs.Runs.{split_last}
pub use Rattle.text_lines.proofs.Utf8.{not_utf8}
pub use Rattle.text_lines.specs.Lines.{is_last, lines_of, words_of}
