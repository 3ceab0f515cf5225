-- The names of lower crates that these specifications use. Declares nothing.
pub use Rattle.hh_lang.specs.Form.{ProgramText}
pub use Rattle.hh_lang.specs.declared.instr.Instr.{Instr}
pub use Rattle.hh_lang.specs.declared.instr.Instr.TheVariants.{Getr, Geti, Putr, Puti, Cntr, Cnti, Cas, Par, Out}
pub use Rattle.hh_lang.specs.declared.program.Line.{Line}
pub use Rattle.hh_model.specs.Closed.{Closed}
pub use Rattle.hh_model.specs.Effect.{object_at, row_of, onward, ref_in, int_in, with_int, Goes, effect, put_object, place_in, same_name}
pub use Rattle.hh_model.specs.Step.{owner_of, is_on_path, is_waiting, is_joined, parents, resumed, child, result_of, asked, fetched, setting, is_running, result_at, can_step}
pub use Rattle.hh_model.specs.Store.{IsStored}
pub use Rattle.hh_model.specs.declared.data.End.{End}
pub use Rattle.hh_model.specs.declared.data.End.TheVariants.{Done}
pub use Rattle.hh_model.specs.declared.data.Frame.{Frame}
pub use Rattle.hh_model.specs.declared.data.MachineState.{MachineState}
pub use Rattle.hh_model.specs.declared.data.Name.{Name}
pub use Rattle.hh_model.specs.declared.data.Object.{Object}
pub use Rattle.hh_model.specs.declared.data.Task.{Task}
pub use Rattle.hh_model.specs.declared.data.TaskStatus.TheVariants.{Running, Waiting, Ended}
pub use Rattle.run_ledger.specs.Heaps.{heap_of, with_heap, let_go, merged, emptied, forked_heap, fresh, within}
pub use Rattle.run_ledger.specs.Sound.{SoundLedger, collecting}
pub use Rattle.run_ledger.specs.Steps.{task_step, is_due, is_in_need, is_private, task_steps, touched}
pub use Rattle.run_ledger.specs.declared.data.Ledger.{Ledger}
pub use Rattle.run_ledger.specs.declared.data.RunEnd.TheVariants.{Machine}
pub use Rattle.run_trace.specs.Settings.{SettingsValue}
