-- Re-exports from `hh_lang` for the crates above.
pub use Rattle.run_journal.specs.below.hh_lang.{ProgramText, Calc, Call, Cas, Cnti, Cntr, Freeze, Geti, Getr, Jmp, Jz, Mov, Movr, Newm, Nil, Out, Pack, Par, Puti, Putr, Ret, Same, Set, Instr, Line}
