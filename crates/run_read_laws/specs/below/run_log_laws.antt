-- Re-exports from `run_log_laws` for the crates above.
pub use Rattle.run_log_laws.specs.Graph.{in_log}
pub use Rattle.run_log_laws.specs.below.hh_lang.{ProgramText}
