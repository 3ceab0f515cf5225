-- Re-exports from `run_turn_laws` for the crates above.
pub use Rattle.run_turn_laws.specs.Events.{events_told}
pub use Rattle.run_turn_laws.specs.below.run_ledger.{Machine, end_of, is_legal, machine_of, tasks_of}
pub use Rattle.run_turn_laws.specs.below.run_log.{block_of, lines_of}
pub use Rattle.run_turn_laws.specs.below.run_trace.{EntryValue, SettingsValue, field_limit}
