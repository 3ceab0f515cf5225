use Rattle.copying_gc.proofs.Common.{length, ap, sym, ◌∙◌, subst, Header, Cell, IsObject, cell_of, place_within}
use Rattle.copying_gc.proofs.OwnObjects.{object_told}
use Rattle.copying_gc.proofs.discovery.refs_in.Goals as goal

pub chunk_in-requires : goal.chunk_in-requires
chunk_in-requires c = place_within c.args.heap.now.chunks c.args.object.chunk c.args.place c.requires.place

pub header_at-requires : goal.header_at-requires
header_at-requires c = subst (λ (x : Cell). IsObject x.mark) (sym (c.chunk_in.ensures c.args.object c.requires.place)) c.requires.object

pub returns : goal.returns
returns c =
    let told = object_told c.chunk_in.result.now.cells c.args.object.offset (cell_of c.args.heap.now.chunks c.args.object) (c.chunk_in.ensures c.args.object c.requires.place) c.requires.object in
    ap (λ (h : Header). h.nrefs) c.header_at.ensures.kind ∙ ap (λ (x : Cell). length x.refs) told
