use Rattle.leaf_heap.proofs.Common.{rules, CellsFitInChunks, IsSettled}
use Rattle.leaf_heap.proofs.Near.{are_near}
use Rattle.leaf_heap.proofs.heap.LeafHeap.chunks.Goals as goal

pub returns-clause-near : goal.returns-clause-near
returns-clause-near c =
    let settled : IsSettled c.args.self.now.chunks = search rules in
    let within : CellsFitInChunks c.args.self.now.chunks = search rules in
    are_near c.args.self.now.chunks settled.tidy within
