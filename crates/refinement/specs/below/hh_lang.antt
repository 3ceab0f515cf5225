-- Re-exports from `hh_lang` for the crates above.
pub use Rattle.task_machine.specs.below.hh_lang.{Calc, Call, Cas, Cnti, Cntr, Freeze, Fun, Geti, Getr, Instr, IsFunction, IsProgram, Jmp, Jz, Line, Mov, Movr, NamesExist, Newm, Nil, Operator, Out, Pack, Par, ProgramText, Puti, Putr, Ret, Same, Set, code_of, line_at}
