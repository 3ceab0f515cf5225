use Rattle.leaf_heap.proofs.Common.{ap, subst, sym, LeafHeapValue, IsSettled}
use Rattle.leaf_heap.proofs.Settled as settled
use Rattle.leaf_heap.proofs.heap.LeafHeap.merge.Goals as goal

pub invariant_of-self : goal.invariant_of-self
invariant_of-self c =
    let apart = rw (← c.left.view_is, ← c.right.view_is, ← c.self.view_is) at c.requires.apart in
    subst IsSettled (sym (ap (λ (h : LeafHeapValue). h.chunks) c.merge.ensures.merged))
    (settled.settled_merged c.left.inside.space.chunks c.right.inside.space.chunks c.self.inside.space.chunks c.left.invariant c.right.invariant c.self.invariant apart)
