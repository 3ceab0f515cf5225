-- The names of lower crates that these specifications use. Declares nothing.
pub use Rattle.json_text.specs.Json.{Json, Members, Number, Word, NoMember, Member, Object, Array, json, values}
pub use Rattle.json_text.specs.below.quoted_text.{task_name}
pub use Rattle.run_journal.specs.BookValue.{IsLegalLedger}
pub use Rattle.run_journal.specs.below.hh_lang.{ProgramText, line_at}
pub use Rattle.run_journal.specs.below.hh_model.{TaskStatus, Ended, Joined, Entangled, Task, MachineState, row_of}
pub use Rattle.run_journal.specs.below.run_ledger.{RunEnd, Machine, Ledger, in_use, end_words, ledger_of, after, opening, words_at, words_in, refusal}
pub use Rattle.run_journal.specs.below.run_trace.{Kind, Took, Ran, Chunk, Begin, End, PutOff, Mark, More, Sweep, Fuel, EntryValue, kind_name, SettingsValue}
pub use Rattle.run_names.specs.Names.{function_name, line_number}
pub use Rattle.run_report.specs.Totals.{cleared_words}
