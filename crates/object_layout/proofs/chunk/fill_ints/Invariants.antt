use Rattle.std.proofs.Common.{◌≡◌}
use Rattle.object_layout.proofs.FillLemmas.{ints_filled}
use Rattle.object_layout.proofs.chunk.fill_ints.Given as goal

abbrev pub invariant-loop-k : goal.invariant-loop-k
invariant-loop-k l = l.chunk ≡ ints_filled l.initial.chunk l.at l.ints l.k
