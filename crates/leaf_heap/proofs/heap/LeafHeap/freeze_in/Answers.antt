use Rattle.std.proofs.Common.{refl}
use Rattle.leaf_heap.proofs.Settled as settled
use Rattle.leaf_heap.proofs.heap.LeafHeap.freeze_in.Goals as goal

pub invariant_of-self : goal.invariant_of-self
invariant_of-self c = rw c.freeze_in.ensures (settled.settled_put c.self.inside.space.chunks c.args.object _ c.self.invariant refl refl)
