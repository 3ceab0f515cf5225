-- The names of lower crates that these specifications use. Declares nothing.
pub use Rattle.run_journal.specs.below.hh_lang.{ProgramText}
pub use Rattle.run_journal.specs.below.hh_model.{Object, TaskStatus, Running, Waiting, Ended, Joined, Trapped, Entangled, Task, MachineState, row_of, Frame, int_in}
pub use Rattle.run_journal.specs.below.run_ledger.{RunEnd, Machine, Ledger, after, opening, ledger_of}
pub use Rattle.run_journal.specs.below.run_trace.{Kind, Took, Ran, Chunk, Begin, End, PutOff, Mark, More, Sweep, Fuel, EntryValue, SettingsValue}
pub use Rattle.run_names.specs.Names.{function_name}
pub use Rattle.run_report.specs.Totals.{cleared_words}
pub use Rattle.run_timeline.specs.Entries.{fork_line}
pub use Rattle.saturating_counts.specs.Counts.{raised_by}
