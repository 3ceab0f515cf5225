use Rattle.leaf_heap.proofs.Common.{ap, refl, arith, to_z-of_z, w64, Header, cell_with_int, cell_at}
use Rattle.object_layout.proofs.ChunkLaws as chunks
use Rattle.object_layout.proofs.PlaceLemmas as place
use Rattle.leaf_heap.proofs.HeapLemmas as heap
use Rattle.leaf_heap.proofs.contents.Contents.set_int_in.Goals as goal

pub at_mut-chunk-requires : goal.at_mut-chunk-requires
at_mut-chunk-requires c =
    let o = rw (← c.self.view_is) at (chunks.object_with_int c.args.self.now.chunks c.args.object c.args.field c.requires.field) in
    let found = (chunks.place_found c.self.inside.chunks.items c.args.object.chunk c.args.place (rw (← c.self.view_is) at c.requires.place)).0 in
    let in' = chunks.chunk_of_object c.self.inside.chunks.items c.args.object o in
    omega arith

pub set_int_behind-requires-clause-refs : goal.set_int_behind-requires-clause-refs
set_int_behind-requires-clause-refs c = ap (λ (h : Header). h.nrefs) c.header_at-header.ensures.kind

pub set_int_behind-requires-clause-field : goal.set_int_behind-requires-clause-field
set_int_behind-requires-clause-field c =
    let o = rw (← c.self.view_is) at (chunks.object_with_int c.args.self.now.chunks c.args.object c.args.field c.requires.field) in
    let found = (chunks.place_found c.self.inside.chunks.items c.args.object.chunk c.args.place (rw (← c.self.view_is) at c.requires.place)).0 in
    let field = rw (← c.self.view_is) at c.requires.field in
    rw (heap.own_cell c.self.inside.chunks.items c.args.object c.args.place c.at_mut-chunk.result.now o found c.at_mut-chunk.ensures.value) at field

pub header_at-header-requires : goal.header_at-header-requires
header_at-header-requires c =
    let o = rw (← c.self.view_is) at (chunks.object_with_int c.args.self.now.chunks c.args.object c.args.field c.requires.field) in
    let found = (chunks.place_found c.self.inside.chunks.items c.args.object.chunk c.args.place (rw (← c.self.view_is) at c.requires.place)).0 in
    rw (heap.own_cell c.self.inside.chunks.items c.args.object c.args.place c.at_mut-chunk.result.now o found c.at_mut-chunk.ensures.value) at o

pub invariant_of-self : goal.invariant_of-self
invariant_of-self c =
    let o = rw (← c.self.view_is) at (chunks.object_with_int c.args.self.now.chunks c.args.object c.args.field c.requires.field) in
    let found = (chunks.place_found c.self.inside.chunks.items c.args.object.chunk c.args.place (rw (← c.self.view_is) at c.requires.place)).0 in
    let back = to_z-of_z w64 c.args.value c.ranges.value in
    rw (c.set_int_behind.ensures, back)
    (heap.own_written c.self.inside.chunks.items c.args.object c.args.place c.at_mut-chunk.result.now o found c.at_mut-chunk.ensures.value
    _ _ _ _ _ _ _ _ _ c.self.invariant (cell_with_int (cell_at c.at_mut-chunk.result.now.cells c.args.object.offset) c.args.field c.args.value) refl refl (place.size_of-with_int (cell_at c.at_mut-chunk.result.now.cells c.args.object.offset) c.args.field c.args.value) _ c.number.result c.number.ensures c.header_at-header.result c.header_at-header.ensures.kind c.note_write.ensures)

pub returns : goal.returns
returns c =
    let o = rw (← c.self.view_is) at (chunks.object_with_int c.args.self.now.chunks c.args.object c.args.field c.requires.field) in
    let found = (chunks.place_found c.self.inside.chunks.items c.args.object.chunk c.args.place (rw (← c.self.view_is) at c.requires.place)).0 in
    let cell = heap.own_cell c.self.inside.chunks.items c.args.object c.args.place c.at_mut-chunk.result.now o found c.at_mut-chunk.ensures.value in
    let put = heap.own_put c.self.inside.chunks.items c.args.object c.args.place c.at_mut-chunk.result.now o found c.at_mut-chunk.ensures.value in
    let back = to_z-of_z w64 c.args.value c.ranges.value in
    rw (← c.self.view_is, c.set_int_behind.ensures, back, cell, put (cell_with_int (cell_at c.at_mut-chunk.result.now.cells c.args.object.offset) c.args.field c.args.value))
