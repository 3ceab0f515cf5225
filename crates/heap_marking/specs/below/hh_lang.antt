-- Re-exports from `hh_lang` for the crates above.
pub use Rattle.core_invariant.specs.below.hh_lang.{Instr, Par, Ret, Line, line_at}
