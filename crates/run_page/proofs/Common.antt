-- The names of lower crates and of the specifications that these proofs use. Declares nothing.
pub use Rattle.hh_lang.specs.Form.{ProgramText}
pub use Rattle.hh_model.specs.declared.data.MachineState.{MachineState}
pub use Rattle.page_data.specs.Run.{entry, entries_from, settings_and_start}
pub use Rattle.run_deltas.proofs.Machines.{machine_moves}
pub use Rattle.run_deltas.specs.Deltas.{machine_after}
pub use Rattle.run_journal.specs.BookValue.{BookValue}
pub use Rattle.run_ledger.specs.Entries.{after}
pub use Rattle.run_ledger.specs.Journals.{opening}
pub use Rattle.run_ledger.specs.declared.data.Ledger.{Ledger}
pub use Rattle.run_trace.specs.Entry.{EntryValue}
pub use Rattle.run_trace.specs.Settings.{SettingsValue}
pub use Rattle.run_trace.specs.declared.entry.Kind.{Kind}
pub use Rattle.std.proofs.Common.{◌≡◌, ◌<◌, ◌+◌, ◌++◌, ℕ, suc, List, ◌∷◌, length, drop, get_or, arith, ap, ap₂, sym, ◌∙◌, append_assoc}
pub use Rattle.std.proofs.Math.Seq.{drop-cons}
pub use Rattle.std.proofs.lemmas.Result.{on_ok_weaker}
