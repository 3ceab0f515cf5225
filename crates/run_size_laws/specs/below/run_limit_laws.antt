-- Re-exports from `run_limit_laws` for the crates above.
pub use Rattle.run_limit_laws.specs.Limits.{IsSmallRun, run_texts}
pub use Rattle.run_limit_laws.specs.below.log_text_laws.{events_of, is_cut}
