-- Re-exports from `hh_lang` for the crates above.
pub use Rattle.hh_lang.specs.Form.{IsFunction, IsProgram, NamesExist, ProgramText, code_of, line_at}
pub use Rattle.hh_lang.specs.declared.instr.Instr.{Instr}
pub use Rattle.hh_lang.specs.declared.instr.Instr.TheVariants.{Calc, Call, Cas, Cnti, Cntr, Freeze, Geti, Getr, Jmp, Jz, Mov, Movr, Newm, Nil, Out, Pack, Par, Puti, Putr, Ret, Same, Set}
pub use Rattle.hh_lang.specs.declared.instr.Operator.{Operator}
pub use Rattle.hh_lang.specs.declared.program.Fun.{Fun}
pub use Rattle.hh_lang.specs.declared.program.Line.{Line}
