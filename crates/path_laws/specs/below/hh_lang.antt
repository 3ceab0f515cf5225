-- Re-exports from `hh_lang` for the crates above.
pub use Rattle.hh_model.specs.below.hh_lang.{ProgramText, line_at, Instr, Set, Mov, Movr, Nil, Calc, Same, Jmp, Jz, Newm, Pack, Getr, Geti, Putr, Puti, Cntr, Cnti, Freeze, Cas, Call, Par, Ret, Out, Line, IsProgram, most_fields}
