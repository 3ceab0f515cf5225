use Rattle.hh_lang.proofs.Common.{ℕ, ◌<◌, length, slice_index_or, Fun, IsFunction}
use Rattle.hh_lang.proofs.check.all_functions.Given as goal

abbrev pub invariant-loop-fun : goal.invariant-loop-fun
invariant-loop-fun l = (k : ℕ) (d : Fun) → k < l.fun-index → IsFunction (length l.functions) (slice_index_or l.functions k d)
