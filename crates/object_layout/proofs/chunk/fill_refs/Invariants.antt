use Rattle.std.proofs.Common.{◌≡◌}
use Rattle.object_layout.proofs.FillLemmas.{refs_filled}
use Rattle.object_layout.proofs.chunk.fill_refs.Given as goal

abbrev pub invariant-loop-k : goal.invariant-loop-k
invariant-loop-k l = l.chunk ≡ refs_filled l.initial.chunk l.at l.refs l.k
