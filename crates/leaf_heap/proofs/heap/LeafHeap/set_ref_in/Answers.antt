use Rattle.leaf_heap.proofs.Common.{refl, cell_of}
use Rattle.object_layout.proofs.PlaceLemmas as place
use Rattle.leaf_heap.proofs.Settled as settled
use Rattle.leaf_heap.proofs.heap.LeafHeap.set_ref_in.Goals as goal

pub invariant_of-self : goal.invariant_of-self
invariant_of-self c = rw c.set_ref_in.ensures (settled.settled_put c.self.inside.space.chunks c.args.object _ c.self.invariant refl (place.size_of-with_ref (cell_of c.self.inside.space.chunks c.args.object) _ _))
