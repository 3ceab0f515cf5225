use Rattle.leaf_heap.proofs.Common.{ap, sym, ◌∙◌, ChunkValue, cell_at}
use Rattle.object_layout.proofs.ChunkLaws as chunks
use Rattle.leaf_heap.proofs.contents.Contents.chunk_of.Goals as goal

pub returns : goal.returns
returns c =
    let in' = rw (← c.self.view_is) at c.requires in
    let place = rw (← c.self.view_is) at c.own_place.ensures in
    let found = chunks.cell_of-found c.self.inside.chunks.items c.args.object c.at.result.now in' in
    rw (← c.self.view_is) (ap (λ (k : ChunkValue). cell_at k.cells c.args.object.offset) (rw place at c.at.ensures) ∙ sym found)
