-- Re-exports from `hh_lang` for the crates above.
pub use Rattle.refinement.specs.below.hh_lang.{IsProgram, ProgramText, Instr, Newm, Pack, Line, Fun, IsFunction, NamesExist, code_of, line_at, Calc, Getr, Geti, Putr, Puti, Cntr, Cnti, Freeze, Cas, Call, Par, Ret, Out, Jmp, Jz, Mov, Movr, Nil, Operator, Same, Set}
