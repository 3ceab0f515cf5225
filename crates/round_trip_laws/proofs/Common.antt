-- The names of lower crates and of the specifications that these proofs use. Declares nothing.
pub use Rattle.hh_lang.specs.Form.{ProgramText}
pub use Rattle.program_reader.specs.Around.{head_of_line, is_inside, outline_of}
pub use Rattle.program_reader.specs.Fault.{first_fault_from, fault_on, first_cause, is_misplaced, or_later_fault, spot_of, first_fault}
pub use Rattle.program_reader.specs.Head.{head_of_word, head_of_words}
pub use Rattle.program_reader.specs.Program.{program_of, unless_refused}
pub use Rattle.program_reader.specs.declared.cause.Cause.{Cause}
pub use Rattle.program_reader.specs.declared.cause.Cause.TheVariants.{NotUtf8}
pub use Rattle.program_reader.specs.declared.cause.TextFault.{TextFault}
pub use Rattle.round_trip_laws.specs.RoundTrip.{TraceFollows, InputsAreRead, IsReadAsTrace, RecordedInputsAreRead}
pub use Rattle.run_trace.proofs.ReadAgain.{texts_are_read_again}
pub use Rattle.run_trace.specs.Trace.{AreTraceLines, fault_in, trace_text, version_by, version_of, version_of_words}
pub use Rattle.run_trace.specs.declared.settings.Version.{Version}
pub use Rattle.run_trace.specs.declared.trace.Trace.{Trace}
pub use Rattle.std.proofs.Common.{◌≡◌, ◌∙◌, ◌++◌, ℕ, ◌+◌, Bool, cond, true, false, List, [], ◌∷◌, length, refl, ap, ◌≤◌, sym, subst, append_assoc, length-append, ◌<◌, arith}
pub use Rattle.std.proofs.lemmas.Bool.{le-leb, eqb-true}
pub use Rattle.std.proofs.lemmas.List.Splits.{length-slice_split}
pub use Rattle.std.proofs.lemmas.Slice.Eq.{bytes_eq-Decides}
pub use Rattle.std.specs.List.{onto_first}
pub use Rattle.std.specs.Prelude.{Option, Some, None, codes, Result, Ok, Err, ◌==◌}
pub use Rattle.std.specs.Str.{is_utf8, bytes_eq}
pub use Rattle.text_lines.specs.Lines.{words_of, lines_of, most_bytes}
pub use Rattle.trace_input.specs.Cut.{begins_trace, is_trace_line, lines_above, trace_lines, bytes_above, program_part, trace_number, with_feeds}
pub use Rattle.trace_input.specs.Input.{IsInput, as_bad_line, bad_line, first_input_fault, input_fault, is_too_old, parts_fault, too_long}
pub use Rattle.trace_input.specs.declared.input.InputFault.TheVariants.{Source}
pub use Rattle.trace_input.specs.declared.input.TraceInput.{TraceInput}
