-- Re-exports from `run_turn_laws` for the crates above.
pub use Rattle.run_log_laws.specs.below.hh_lang.{ProgramText}
pub use Rattle.run_turn_laws.specs.Events.{events_told}
pub use Rattle.run_turn_laws.specs.below.run_ledger.{is_legal, machine_of, tasks_of}
pub use Rattle.run_turn_laws.specs.below.run_log.{lines_of}
pub use Rattle.run_turn_laws.specs.below.run_trace.{EntryValue, SettingsValue, field_limit}
