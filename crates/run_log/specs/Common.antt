-- The names of lower crates that these specifications use. Declares nothing.
pub use Rattle.hh_lang.specs.Form.{ProgramText}
pub use Rattle.hh_lang.specs.declared.instr.Instr.{Instr}
pub use Rattle.hh_lang.specs.declared.instr.Instr.TheVariants.{Getr, Geti, Putr, Puti, Cas}
pub use Rattle.hh_lang.specs.declared.program.Fun.{Fun}
pub use Rattle.hh_lang.specs.declared.program.Line.{Line}
pub use Rattle.hh_model.specs.Effect.{object_at}
pub use Rattle.hh_model.specs.Step.{is_left, start}
pub use Rattle.hh_model.specs.Tree.{joins_in}
pub use Rattle.hh_model.specs.declared.data.End.TheVariants.{Done}
pub use Rattle.hh_model.specs.declared.data.MachineState.{MachineState}
pub use Rattle.hh_model.specs.declared.data.Name.{Name}
pub use Rattle.hh_model.specs.declared.data.Object.{Object}
pub use Rattle.hh_model.specs.declared.data.Task.{Task}
pub use Rattle.hh_model.specs.declared.data.TaskStatus.{TaskStatus}
pub use Rattle.hh_model.specs.declared.data.TaskStatus.TheVariants.{Running, Waiting, Ended, Joined}
pub use Rattle.log_lines.specs.declared.line.Access.{Access}
pub use Rattle.log_lines.specs.declared.line.AccessKind.{AccessKind}
pub use Rattle.log_lines.specs.declared.line.Act.{Act}
pub use Rattle.log_lines.specs.declared.line.LogLine.{LogLine}
pub use Rattle.log_lines.specs.declared.line.LogPlace.{LogPlace}
pub use Rattle.log_lines.specs.declared.line.Reference.{Reference}
pub use Rattle.run_deltas.specs.Deeds.{act_of, deed_of}
pub use Rattle.run_deltas.specs.Deltas.{machine_after}
pub use Rattle.run_deltas.specs.Steps.{stepped}
pub use Rattle.run_deltas.specs.declared.data.Deed.{Deed}
pub use Rattle.run_deltas.specs.declared.data.StepDeed.{StepDeed}
pub use Rattle.run_deltas.specs.declared.data.Value.{Value}
pub use Rattle.run_journal.specs.below.run_ledger.{RunEnd, Machine, end_of}
pub use Rattle.run_trace.specs.Entry.{EntryValue}
pub use Rattle.run_trace.specs.Settings.{SettingsValue, field_limit}
pub use Rattle.run_trace.specs.declared.entry.Kind.{Kind}
pub use Rattle.run_trace.specs.declared.entry.Kind.TheVariants.{Ran}
