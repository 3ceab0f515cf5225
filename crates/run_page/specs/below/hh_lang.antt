-- Re-exports from `hh_lang` for the crates above.
pub use Rattle.hh_lang.specs.Form.{ProgramText}
