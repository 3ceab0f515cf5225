use Rattle.leaf_collections.proofs.Common.{◌≡◌, length, take, AreGiven}
use Rattle.leaf_collections.proofs.leaf_end.give_all.Given as goal

abbrev pub invariant-loop-chunk : goal.invariant-loop-chunk
invariant-loop-chunk l = record {
  taken : l.yielded ≡ take (length l.yielded) l.fn.chunks.items;
  pool : AreGiven l.fn.pool l.pool l.yielded;
}
