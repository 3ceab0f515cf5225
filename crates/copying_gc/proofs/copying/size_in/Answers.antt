use Rattle.copying_gc.proofs.Common.{length, arith, ap, sym, ◌∙◌, subst, Header, Cell, IsObject, cell_of, place_within}
use Rattle.copying_gc.proofs.OwnObjects.{object_told}
use Rattle.copying_gc.proofs.copying.size_in.Goals as goal

pub chunk_in-requires : goal.chunk_in-requires
chunk_in-requires c = place_within c.args.heap.now.chunks c.args.object.chunk c.args.place c.requires.place

pub header_at-header-requires : goal.header_at-header-requires
header_at-header-requires c = subst (λ (x : Cell). IsObject x.mark) (sym (c.chunk_in.ensures c.args.object c.requires.place)) c.requires.object

pub returns : goal.returns
returns c =
    let told = object_told c.chunk_in.result.now.cells c.args.object.offset (cell_of c.args.heap.now.chunks c.args.object) (c.chunk_in.ensures c.args.object c.requires.place) c.requires.object in
    let refs = ap (λ (h : Header). h.nrefs) c.header_at-header.ensures.kind ∙ ap (λ (x : Cell). length x.refs) told in
    let ints = ap (λ (h : Header). h.nints) c.header_at-header.ensures.kind ∙ ap (λ (x : Cell). length x.ints) told in
    omega (arith, refs, ints)
