-- Re-exports from `hh_lang` for the crates above.
pub use Rattle.core_invariant.specs.below.hh_lang.{Calc, Call, Cas, Cnti, Cntr, Freeze, Geti, Getr, Instr, Jmp, Jz, Line, Mov, Movr, Newm, Nil, Out, Pack, Par, ProgramText, Puti, Putr, Ret, Same, Set, line_at}
