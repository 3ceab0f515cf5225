-- The names of lower crates and of the specifications that these proofs use. Declares nothing.
pub use Rattle.hh_lang.specs.Form.{ProgramText}
pub use Rattle.hh_lang.specs.declared.instr.Instr.{Instr}
pub use Rattle.hh_model.specs.Names.{names_of_references, registers}
pub use Rattle.hh_model.specs.Step.{step, run_from}
pub use Rattle.hh_model.specs.declared.data.Frame.{Frame}
pub use Rattle.hh_model.specs.declared.data.MachineState.{MachineState}
pub use Rattle.hh_model.specs.declared.data.Name.{Name}
pub use Rattle.run_deltas.specs.Deeds.{deed}
pub use Rattle.run_deltas.specs.Deltas.{machine_after}
pub use Rattle.run_deltas.specs.Roots.{with_root, with_roots}
pub use Rattle.run_deltas.specs.Steps.{stepped, changes}
pub use Rattle.run_ledger.proofs.Machine.{kind_machine}
pub use Rattle.run_ledger.specs.Entries.{after_kind}
pub use Rattle.run_ledger.specs.Journals.{tasks_in}
pub use Rattle.run_ledger.specs.declared.data.Ledger.{Ledger}
pub use Rattle.run_trace.specs.Settings.{SettingsValue}
pub use Rattle.run_trace.specs.declared.entry.Kind.{Kind}
pub use Rattle.run_trace.specs.declared.entry.Kind.TheVariants.{Took, Ran, Chunk, Begin, End, PutOff, Mark, More, Sweep, Fuel}
pub use Rattle.std.proofs.Common.{◌≡◌, ℕ, ◌+◌, ◌<◌, Bool, true, false, ◌||◌, cond, Option, Some, None, List, [], ◌∷◌, ◌++◌, length, take, get_or, refl, ap, sym, ◌∙◌, append_assoc, append-nil, zero, suc, replicate}
pub use Rattle.std.proofs.lemmas.List.{take_more}
pub use Rattle.std.proofs.lemmas.Result.{on_ok_weaker}
