use Rattle.leaf_heap.proofs.Common.{ap, subst, sym, LeafHeapValue, IsSettled}
use Rattle.leaf_heap.proofs.Settled as settled
use Rattle.leaf_heap.proofs.heap.LeafHeap.add_spare.Goals as goal

pub invariant_of-self : goal.invariant_of-self
invariant_of-self c =
    let fresh = rw (← c.self.view_is) at c.requires.fresh in
    subst IsSettled (sym (ap (λ (h : LeafHeapValue). h.chunks) c.add_spare.ensures.added)) (settled.settled_added c.self.inside.space c.args.chunk c.self.invariant c.requires.empty fresh)
