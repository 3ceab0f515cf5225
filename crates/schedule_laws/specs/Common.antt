-- The names of lower crates that these specifications use. Declares nothing.
pub use Rattle.hh_lang.specs.Form.{ProgramText}
pub use Rattle.hh_lang.specs.declared.instr.Instr.TheVariants.{Freeze}
pub use Rattle.hh_lang.specs.declared.program.Line.{Line}
pub use Rattle.hh_model.specs.Effect.{Effect, Goes, Prints, Calls, Forks, Returns, Traps, Stops, effect, object_at, ref_in}
pub use Rattle.hh_model.specs.Precedence.{Precedes, same_strand}
pub use Rattle.hh_model.specs.Step.{run, can_step, parents, fetched, setting, start, step, strand_of, owner_of, run_from}
pub use Rattle.hh_model.specs.Store.{IsNext}
pub use Rattle.hh_model.specs.declared.data.Edge.{Edge}
pub use Rattle.hh_model.specs.declared.data.End.{End}
pub use Rattle.hh_model.specs.declared.data.End.TheVariants.{Done, Trapped, Entangled}
pub use Rattle.hh_model.specs.declared.data.MachineState.{MachineState}
pub use Rattle.hh_model.specs.declared.data.Name.{Name}
pub use Rattle.hh_model.specs.declared.data.Object.{Object}
pub use Rattle.hh_model.specs.declared.data.Strand.{Strand}
pub use Rattle.hh_model.specs.declared.data.Task.{Task}
pub use Rattle.race_report.specs.Accesses.{accesses, with_some, next_access}
pub use Rattle.race_report.specs.LabelLaw.{TaskRuns}
pub use Rattle.race_report.specs.Report.{IsReport}
pub use Rattle.race_report.specs.StopLaw.{HasNoRace}
pub use Rattle.race_report.specs.declared.data.Field.{Field}
pub use Rattle.race_report.specs.declared.data.FieldAccess.{FieldAccess}
pub use Rattle.renaming_laws.specs.Alike.{AreRenamed}
pub use Rattle.renaming_laws.specs.Renaming.{IsRenaming, name_to, strand_to}
pub use Rattle.run_ledger.specs.Journals.{machine_of, tasks_of}
pub use Rattle.run_trace.specs.Entry.{EntryValue}
pub use Rattle.run_trace.specs.Settings.{SettingsValue, field_limit}
