use Rattle.copying_gc.proofs.Common.{◌++◌, sym, subst, HaveDistinctNumbers, AreTidy, LeafHeapValue}
use Rattle.address_laws.proofs.Numbers as nums
use Rattle.copying_gc.proofs.collection.copy.Goals as goal

pub collect-space-requires-clause-tidy : goal.collect-space-requires-clause-tidy
collect-space-requires-clause-tidy g c = subst (λ (h : LeafHeapValue). AreTidy h.chunks) (sym c.open.ensures.space) c.open.ensures.settled.tidy

pub collect-space-requires-clause-apart : goal.collect-space-requires-clause-apart
collect-space-requires-clause-apart g c =
    subst (λ (h : LeafHeapValue). HaveDistinctNumbers (h.chunks ++ c.args.to_chunks.chunks.items)) (sym c.open.ensures.space)
    (nums.apart_append c.args.heap.now.chunks c.args.to_chunks.chunks.items c.open.ensures.settled.apart c.requires.apart c.requires.fresh)
