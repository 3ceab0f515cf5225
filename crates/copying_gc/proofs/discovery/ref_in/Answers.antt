use Rattle.copying_gc.proofs.Common.{◌≡◌, ◌<◌, length, Some, sym, subst, slice_get, Cell, cell_of, place_within}
use Rattle.copying_gc.proofs.OwnObjects.{object_told}
use Rattle.copying_gc.proofs.discovery.ref_in.Goals as goal

pub chunk_in-requires : goal.chunk_in-requires
chunk_in-requires c = place_within c.args.heap.now.chunks c.args.object.chunk c.args.place c.requires.place

pub ref_at-requires : goal.ref_at-requires
ref_at-requires c =
    let told = object_told c.chunk_in.result.now.cells c.args.object.offset (cell_of c.args.heap.now.chunks c.args.object) (c.chunk_in.ensures c.args.object c.requires.place) c.requires.object in
    subst (λ (x : Cell). c.args.field < length x.refs) (sym told) c.requires.field

pub returns-clause-value : goal.returns-clause-value
returns-clause-value c =
    let told = object_told c.chunk_in.result.now.cells c.args.object.offset (cell_of c.args.heap.now.chunks c.args.object) (c.chunk_in.ensures c.args.object c.requires.place) c.requires.object in
    subst (λ (x : Cell). slice_get x.refs c.args.field ≡ Some c.ref_at.result) told c.ref_at.ensures.value
