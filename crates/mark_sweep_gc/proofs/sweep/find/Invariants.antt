use Rattle.mark_sweep_gc.proofs.Common.{take, IsFresh}
use Rattle.mark_sweep_gc.proofs.sweep.find.Given as goal

abbrev pub invariant-loop-i : goal.invariant-loop-i
invariant-loop-i l = IsFresh (take l.i l.chunks) l.number
