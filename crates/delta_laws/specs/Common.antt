-- The names of lower crates that these specifications use. Declares nothing.
pub use Rattle.hh_lang.specs.Form.{ProgramText, IsProgram}
pub use Rattle.hh_model.specs.Effect.{object_at}
pub use Rattle.hh_model.specs.Names.{task_names}
pub use Rattle.hh_model.specs.Step.{start}
pub use Rattle.hh_model.specs.declared.data.MachineState.{MachineState}
pub use Rattle.hh_model.specs.declared.data.Name.{Name}
pub use Rattle.hh_model.specs.declared.data.Object.{Object}
pub use Rattle.hh_model.specs.declared.data.Task.{Task}
pub use Rattle.run_deltas.specs.Deltas.{delta, deltas}
pub use Rattle.run_deltas.specs.News.{News, Nothing, Given, Taken, Laid, Snapped, Marked, Swept, news}
pub use Rattle.run_deltas.specs.Roots.{roots}
pub use Rattle.run_deltas.specs.Tasks.{now_free, standing_for, line_for}
pub use Rattle.run_deltas.specs.declared.data.Change.{Change}
pub use Rattle.run_deltas.specs.declared.data.Change.TheVariants.{New, Set, Froze, Print}
pub use Rattle.run_deltas.specs.declared.data.Delta.{Delta}
pub use Rattle.run_deltas.specs.declared.data.NewObject.{NewObject}
pub use Rattle.run_deltas.specs.declared.data.NewTask.{NewTask}
pub use Rattle.run_deltas.specs.declared.data.Standing.{Standing}
pub use Rattle.run_deltas.specs.declared.data.Standing.TheVariants.{Ready, Out, Waits, HasEnded, HasJoined}
pub use Rattle.run_deltas.specs.declared.data.TaskNow.{TaskNow}
pub use Rattle.run_deltas.specs.declared.data.Value.{Value}
pub use Rattle.run_deltas.specs.declared.data.Value.TheVariants.{Reference, Number}
pub use Rattle.run_ledger.specs.Entries.{after}
pub use Rattle.run_ledger.specs.Heaps.{is_small_size, begun_in, put_last, heap_of}
pub use Rattle.run_ledger.specs.Journals.{opening, is_legal, ledger_of}
pub use Rattle.run_ledger.specs.Reachable.{holds_name, is_name}
pub use Rattle.run_ledger.specs.declared.data.Heap.{Heap}
pub use Rattle.run_ledger.specs.declared.data.Ledger.{Ledger}
pub use Rattle.run_trace.specs.Entry.{EntryValue}
pub use Rattle.run_trace.specs.Settings.{SettingsValue, field_limit}
