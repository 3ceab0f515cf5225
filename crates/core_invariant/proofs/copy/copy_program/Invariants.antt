use Rattle.std.proofs.Common.{◌≡◌, take}
use Rattle.core_invariant.proofs.copy.copy_program.Given as goal

abbrev pub invariant-loop-i : goal.invariant-loop-i
invariant-loop-i l = l.functions.items ≡ take l.i l.from
