use Rattle.leaf_heap.proofs.Common.{ap, sym, ◌∙◌, arith, ChunkValue, cell_at}
use Rattle.object_layout.proofs.ChunkLaws as chunks
use Rattle.leaf_heap.proofs.contents.Contents.chunk_in.Goals as goal

pub returns : goal.returns
returns c object there =
    let at = chunks.place_found c.self.inside.chunks.items object.chunk c.args.place (rw (← c.self.view_is) at there) in
    let place = at.0 in
    let l = at.1 in
    let found = chunks.cell_of-found c.self.inside.chunks.items object c.at.result.now (omega arith) in
    rw (← c.self.view_is) (ap (λ (k : ChunkValue). cell_at k.cells object.offset) (rw place at c.at.ensures) ∙ sym found)
