use Rattle.leaf_heap.proofs.HeapLemmas as heap
use Rattle.leaf_heap.proofs.contents.Contents.own_chunk.Goals as goal

pub returns-clause-cell : goal.returns-clause-cell
returns-clause-cell c = heap.found_cell c.args.self.now.chunks c.args.object c.chunk.result c.chunk.ensures
