-- Re-exports from `hh_lang` for the crates above.
pub use Rattle.heap_reading.specs.below.hh_lang.{ProgramText}
