-- Re-exports from `hh_lang` for the crates above.
pub use Rattle.hh_lang.specs.Form.{IsProgram, ProgramText}
pub use Rattle.hh_lang.specs.Limits.{program_limit}
