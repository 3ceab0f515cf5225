-- Re-exports from `hh_lang` for the crates above.
pub use Rattle.run_log_laws.specs.below.hh_lang.{Fun, Line, ProgramText}
