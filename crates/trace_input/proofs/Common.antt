-- The names of lower crates and of the specifications that these proofs use. Declares nothing.
pub use Rattle.hh_lang.specs.Form.{ProgramText}
pub use Rattle.program_reader.specs.Fault.{first_fault}
pub use Rattle.program_reader.specs.Program.{program_of, reading_of, unless_refused}
pub use Rattle.program_reader.specs.declared.cause.TextFault.{TextFault}
pub use Rattle.std.proofs.Common.{◌≡◌, ◌<◌, ◌+◌, ◌-◌, ◌++◌, ℕ, suc, false, List, [], ◌∷◌, length, take, arith, refl, ap, sym, ◌∙◌, append_assoc, length-append, subst, Err, ◌≤◌}
pub use Rattle.std.proofs.Math.Seq.{take-append_seam}
pub use Rattle.std.proofs.lemmas.List.Splits.{join_with_byte-slice_split, length-slice_split}
pub use Rattle.std.proofs.lemmas.Result.{err_from_is_err_and}
pub use Rattle.std.specs.List.{join_with_byte}
pub use Rattle.std.specs.Prelude.{◌==◌, Option, Some, None, Ok, IfErr}
pub use Rattle.text_lines.specs.Lines.{lines_of}
pub use Rattle.trace_input.specs.Cut.{is_trace_line, lines_above, trace_lines, with_feeds, program_part, trace_number}
pub use Rattle.trace_input.specs.Input.{trace_bad, bad_line, as_bad_line, parts_fault, FailsTrace}
pub use Rattle.or_no_memory.specs.declared.OrNoMemory.{OrNoMemory}
pub use Rattle.or_no_memory.specs.Refusals.{Reports}
pub use Rattle.trace_input.specs.declared.input.InputFault.{InputFault}
