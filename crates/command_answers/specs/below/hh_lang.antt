-- Re-exports from `hh_lang` for the crates above.
pub use Rattle.made_program_laws.specs.below.hh_lang.{ProgramText}
