-- The names of lower crates and of the specifications that these proofs use. Declares nothing.
pub use Rattle.hh_lang.specs.Form.{ProgramText}
pub use Rattle.hh_model.specs.declared.data.MachineState.{MachineState}
pub use Rattle.log_lines.specs.declared.line.LogLine.{LogLine}
pub use Rattle.run_deltas.specs.Deltas.{machine_after}
pub use Rattle.run_deltas.specs.Steps.{stepped}
pub use Rattle.run_log.specs.Lines.{step_lines, steps_lines, entry_lines, lines_from}
pub use Rattle.run_log.specs.Sites.{site_line, function_sites}
pub use Rattle.run_log.specs.Writing.{written, all_written, spaced_numbers}
pub use Rattle.run_trace.specs.Entry.{EntryValue}
pub use Rattle.run_trace.specs.declared.entry.Kind.{Kind}
pub use Rattle.std.proofs.Common.{◌≡◌, ◌<◌, ◌+◌, ◌++◌, ℕ, suc, List, ◌∷◌, length, drop, get_or, arith, ap, ap₂, sym, ◌∙◌, append_assoc, take}
pub use Rattle.std.proofs.Math.Seq.{drop-cons}
pub use Rattle.std.proofs.lemmas.Grind.{flat_map-append}
pub use Rattle.std.specs.List.{flat_map}
