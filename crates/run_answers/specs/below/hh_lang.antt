-- Re-exports from `hh_lang` for the crates above.
pub use Rattle.command_answers.specs.below.hh_lang.{ProgramText}
