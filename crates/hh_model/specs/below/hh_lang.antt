-- Re-exports from `hh_lang` for the crates above.
pub use Rattle.hh_lang.specs.Form.{ProgramText, line_at, IsProgram}
pub use Rattle.hh_lang.specs.declared.instr.Instr.{Instr}
pub use Rattle.hh_lang.specs.declared.instr.Instr.TheVariants.{Set, Mov, Movr, Calc, Same, Jmp, Jz, Newm, Pack, Getr, Geti, Putr, Puti, Cntr, Cnti, Freeze, Cas, Call, Par, Ret, Out, Nil}
pub use Rattle.hh_lang.specs.declared.program.Line.{Line}
pub use Rattle.hh_lang.specs.Limits.{most_fields}
