-- Re-exports from `hh_lang` for the crates above.
pub use Rattle.refinement_laws.specs.below.hh_lang.{Calc, Call, Cas, Cnti, Cntr, Freeze, Geti, Getr, Instr, IsProgram, Jmp, Jz, Line, Mov, Movr, Newm, Nil, Operator, Out, Pack, Par, ProgramText, Puti, Putr, Ret, Same, Set, line_at}
