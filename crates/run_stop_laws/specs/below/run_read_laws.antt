-- Re-exports from `run_read_laws` for the crates above.
pub use Rattle.run_read_laws.specs.below.hh_model.{Entangled}
pub use Rattle.run_read_laws.specs.below.run_log_laws.{ProgramText}
pub use Rattle.run_read_laws.specs.below.run_turn_laws.{EntryValue, Machine, SettingsValue, end_of, is_legal, tasks_of}
