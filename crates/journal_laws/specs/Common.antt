-- The names of lower crates that these specifications use. Declares nothing.
pub use Rattle.hh_lang.specs.Form.{ProgramText}
pub use Rattle.hh_model.specs.Step.{is_running, is_waiting, waits}
pub use Rattle.hh_model.specs.declared.data.Name.{Name}
pub use Rattle.hh_model.specs.declared.data.Strand.{Strand}
pub use Rattle.hh_model.specs.declared.data.Task.{Task}
pub use Rattle.plain_vec.specs.Members.{In}
pub use Rattle.run_ledger.specs.Entries.{is_fuel, refusal, after}
pub use Rattle.run_ledger.specs.Heaps.{end_numbers, heap_of, in_use, left_in, sweep_number, take_of, words_in, held_in, within}
pub use Rattle.run_ledger.specs.Journals.{ledger_of, is_legal, opening}
pub use Rattle.run_ledger.specs.Pace.{fork_of, is_paced, marked_at_once}
pub use Rattle.run_ledger.specs.Reachable.{is_name}
pub use Rattle.run_ledger.specs.Steps.{is_due, is_in_need, most_steps, standing}
pub use Rattle.run_ledger.specs.declared.data.Ledger.{Ledger}
pub use Rattle.run_ledger.specs.declared.data.Previous.{Previous}
pub use Rattle.run_ledger.specs.declared.data.Previous.TheVariants.{Other, Forked}
pub use Rattle.run_ledger.specs.declared.data.WorkerPace.{WorkerPace}
pub use Rattle.run_ledger.specs.below.run_trace.{EntryValue, SettingsValue, Kind, Took, Ran, Chunk, Begin, End, PutOff, Mark, More, Sweep, Fuel}
