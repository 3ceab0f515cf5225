-- Re-exports from `hh_lang` for the crates above.
pub use Rattle.leaf_collections.specs.below.hh_lang.{ProgramText}
