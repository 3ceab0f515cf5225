-- Re-exports from `hh_lang` for the crates above.
pub use Rattle.leaf_collections.specs.below.hh_lang.{ProgramText}
pub use Rattle.heap_marking.specs.below.hh_lang.{Instr, Par, Ret, Line, line_at}
