use Rattle.hh_lang.proofs.Common.{ℕ, ◌<◌, length, slice_index_or, Line, NamesExist}
use Rattle.hh_lang.proofs.check.all_names_exist.Given as goal

abbrev pub invariant-loop-line : goal.invariant-loop-line
invariant-loop-line l = (k : ℕ) (d : Line) → k < l.line-index → NamesExist l.functions (length l.code) (slice_index_or l.code k d).instr
