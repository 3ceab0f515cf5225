-- The names of lower crates and of the specifications that these proofs use. Declares nothing.
pub use Rattle.hh_lang.specs.Number.{signed_number}
pub use Rattle.hh_lang.specs.declared.instr.Instr.{Instr}
pub use Rattle.program_reader.specs.Around.{outline_of, head_of_line, operands_of_line, is_open_after, looped_name, is_inside, noted_if, begun_name, outline_line, outline_above, outline_onto, no_names, no_labels, label_line, labels_after, labels_above, labels_onto, ends_body, begins, begun_above, orders, orders_above}
pub use Rattle.program_reader.specs.Fault.{spot_of, fault_on, or_later_fault, first_fault_from, first_fault, LineContext, is_begin, is_misplaced, has_wrong_operand, is_second, names_no_function, names_no_label, lacks_main, is_too_many, function_limit, order_limit, first_cause, line_cause, is_named_in}
pub use Rattle.program_reader.specs.Head.{head_of_words, operands_of}
pub use Rattle.program_reader.specs.Names.{NotedName, is_noted, is_name, name_index, numbered_of, noted_name_of, with_name}
pub use Rattle.program_reader.specs.Operands.{int_register, ref_register, field_count}
pub use Rattle.program_reader.specs.Sense.{sense_of, plain_one, plain_two, plain_three, plain_five, plain, at_label, jump_on_zero, calling, forking, looping, order_alone, order_one, order_two, ordered_sense, only_name, sense_of_name, one, two, three, five, jump, call, fork, loop_over, alone}
pub use Rattle.program_reader.specs.declared.cause.Cause.{Cause}
pub use Rattle.program_reader.specs.declared.cause.TextFault.{TextFault}
pub use Rattle.program_reader.specs.declared.head.Head.{Head}
pub use Rattle.program_reader.specs.declared.head.Head.TheVariants.{Blank, Begin, End, Label, Order, Unknown}
pub use Rattle.program_reader.specs.declared.head.Verb.{Verb}
pub use Rattle.program_reader.specs.declared.head.Verb.TheVariants.{Set, Mov, Movr, Nil, Calc, Same, Jmp, Jz, Newm, Pack, Getr, Geti, Putr, Puti, Cntr, Cnti, Freeze, Cas, Call, Par, Pfor, Ret, Out}
pub use Rattle.program_reader.specs.declared.labels.Labels.{Labels}
pub use Rattle.program_reader.specs.declared.sense.Outline.{Outline}
pub use Rattle.program_reader.specs.declared.sense.Sense.{Sense}
pub use Rattle.program_reader.specs.declared.sense.Sense.TheVariants.{WrongOperand, Fits, Does, NoSuchFunction, NoSuchLabel}
pub use Rattle.std.proofs.Common.{◌≡◌, ◌<◌, ◌≤◌, ◌+◌, ◌++◌, ℕ, Bool, true, false, List, [], ◌∷◌, length, take, drop, arith, refl, ap, sym, ◌∙◌, append_assoc, append-nil, ◌==◌, zero, suc, add-one, map, inl, inr, ◌&&◌, ◌||◌, cond, true≢false, nat_lt, filter, subst, get_or, eq-eqb, ◌-◌}
pub use Rattle.std.proofs.lemmas.Bool.{cases_lt, ne_eqb}
pub use Rattle.std.proofs.lemmas.List.{take_all, drop_all, drop-drop, length-drop, length-take-le, map-append}
pub use Rattle.std.proofs.lemmas.List.Splits.{slice_split_first}
pub use Rattle.std.proofs.lemmas.Option.{slice_get_cases}
pub use Rattle.std.proofs.lemmas.Slice.Eq.{bytes_eq-Decides}
pub use Rattle.std.specs.List.{position_or_len, list_any, list_all, slice_split}
pub use Rattle.std.specs.Prelude.{Option, Some, None, slice_get, not, nat_le, codes, is_some, option_map, position, if◌then◌else◌, MatchOption}
pub use Rattle.std.specs.Str.{is_utf8, bytes_eq}
pub use Rattle.text_faults.specs.Faults.{faults_on, faults_from, walked, walked_by, fault_of, walk_of, faults_of, cause_of_wrong}
pub use Rattle.text_faults.specs.Forms.{head_form, Form, verb_form}
pub use Rattle.text_faults.specs.Laws.{first_of_faults}
pub use Rattle.text_faults.specs.Lines.{head_of, behind_first, form_of, first_placed_word, lone_name}
pub use Rattle.text_faults.specs.Operands.{is_operand}
pub use Rattle.text_faults.specs.Parsed.{IsParse}
pub use Rattle.text_faults.specs.Placed.{PlacedWord, placed_words, placed_of, placed_from, placed_in}
pub use Rattle.text_faults.specs.WordFault.{Wronged, wrongs_on, wrong_if, misplaced, first_wrong, operand_wrong, unreadable, nested, left_open, first_misnamed, main_missing, too_many, with_wronged, if_read, all_wronged, wrongs_by, wrong_unless, name_wrong, wronged_or, wronged, word_place}
pub use Rattle.text_faults.specs.declared.fault.Fault.{Fault}
pub use Rattle.text_faults.specs.declared.fault.Operand.{Operand}
pub use Rattle.text_faults.specs.declared.fault.Operand.TheVariants.{IntRegister, RefRegister, Number, FieldCount, Function, NewFunction, NewLabel}
pub use Rattle.text_faults.specs.declared.fault.Wrong.{Wrong}
pub use Rattle.text_faults.specs.declared.fault.Wrong.TheVariants.{NotUtf8, InsideFunction, OpenFunction, NoMain, ManyFunctions, ManyInstructions, UnknownFunction, UnknownLabel, SecondFunction, SecondLabel, NotOne}
pub use Rattle.text_faults.specs.declared.parsed.Parsed.{Parsed}
pub use Rattle.text_faults.specs.declared.walk.LinesAbove.{LinesAbove}
pub use Rattle.text_lines.proofs.Last.{some_line}
pub use Rattle.text_lines.proofs.Runs.{split_last, position_at, position_end}
pub use Rattle.text_lines.specs.Lines.{is_last, lines_of, is_blank, begins_comment, is_word, before_comment, words_of}
