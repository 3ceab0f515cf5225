-- The names of lower crates that these specifications use. Declares nothing.
pub use Rattle.hh_lang.specs.Form.{ProgramText, IsProgram, line_at}
pub use Rattle.hh_lang.specs.declared.instr.Instr.{Instr}
pub use Rattle.hh_lang.specs.declared.instr.Instr.TheVariants.{Set, Mov, Movr, Nil, Calc, Same, Jmp, Jz, Newm, Pack, Getr, Geti, Putr, Puti, Cntr, Cnti, Freeze, Cas, Call, Par, Ret, Out}
pub use Rattle.hh_lang.specs.declared.instr.Operator.{Operator}
pub use Rattle.hh_lang.specs.declared.instr.Operator.TheVariants.{Add, Sub, Mul, Div, Rem, Lt, Eq}
pub use Rattle.hh_lang.specs.declared.program.Line.{Line}
pub use Rattle.hh_lang.specs.below.plain_vec.{In}
