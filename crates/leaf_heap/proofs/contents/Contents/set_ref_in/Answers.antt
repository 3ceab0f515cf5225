use Rattle.leaf_heap.proofs.Common.{refl, arith, with_ref, cell_at}
use Rattle.object_layout.proofs.ChunkLaws as chunks
use Rattle.object_layout.proofs.PlaceLemmas as place
use Rattle.leaf_heap.proofs.HeapLemmas as heap
use Rattle.leaf_heap.proofs.contents.Contents.set_ref_in.Goals as goal

pub at_mut-chunk-requires : goal.at_mut-chunk-requires
at_mut-chunk-requires c =
    let o = rw (← c.self.view_is) at (chunks.object_with_ref c.args.self.now.chunks c.args.object c.args.field c.requires.field) in
    let found = (chunks.place_found c.self.inside.chunks.items c.args.object.chunk c.args.place (rw (← c.self.view_is) at c.requires.place)).0 in
    let in' = chunks.chunk_of_object c.self.inside.chunks.items c.args.object o in
    omega arith

pub set_ref-requires-clause-field : goal.set_ref-requires-clause-field
set_ref-requires-clause-field c =
    let o = rw (← c.self.view_is) at (chunks.object_with_ref c.args.self.now.chunks c.args.object c.args.field c.requires.field) in
    let found = (chunks.place_found c.self.inside.chunks.items c.args.object.chunk c.args.place (rw (← c.self.view_is) at c.requires.place)).0 in
    let field = rw (← c.self.view_is) at c.requires.field in
    rw (heap.own_cell c.self.inside.chunks.items c.args.object c.args.place c.at_mut-chunk.result.now o found c.at_mut-chunk.ensures.value) at field

pub header_at-header-requires : goal.header_at-header-requires
header_at-header-requires c =
    let o = rw (← c.self.view_is) at (chunks.object_with_ref c.args.self.now.chunks c.args.object c.args.field c.requires.field) in
    let found = (chunks.place_found c.self.inside.chunks.items c.args.object.chunk c.args.place (rw (← c.self.view_is) at c.requires.place)).0 in
    rw (heap.own_cell c.self.inside.chunks.items c.args.object c.args.place c.at_mut-chunk.result.now o found c.at_mut-chunk.ensures.value) at o

pub invariant_of-self : goal.invariant_of-self
invariant_of-self c =
    let o = rw (← c.self.view_is) at (chunks.object_with_ref c.args.self.now.chunks c.args.object c.args.field c.requires.field) in
    let found = (chunks.place_found c.self.inside.chunks.items c.args.object.chunk c.args.place (rw (← c.self.view_is) at c.requires.place)).0 in
    rw c.set_ref.ensures
    (heap.own_written c.self.inside.chunks.items c.args.object c.args.place c.at_mut-chunk.result.now o found c.at_mut-chunk.ensures.value
    _ _ _ _ _ _ _ _ _ c.self.invariant (with_ref (cell_at c.at_mut-chunk.result.now.cells c.args.object.offset) c.args.field c.args.value) refl refl (place.size_of-with_ref (cell_at c.at_mut-chunk.result.now.cells c.args.object.offset) c.args.field c.args.value) _ c.number.result c.number.ensures c.header_at-header.result c.header_at-header.ensures.kind c.note_write.ensures)

pub returns : goal.returns
returns c =
    let o = rw (← c.self.view_is) at (chunks.object_with_ref c.args.self.now.chunks c.args.object c.args.field c.requires.field) in
    let found = (chunks.place_found c.self.inside.chunks.items c.args.object.chunk c.args.place (rw (← c.self.view_is) at c.requires.place)).0 in
    let cell = heap.own_cell c.self.inside.chunks.items c.args.object c.args.place c.at_mut-chunk.result.now o found c.at_mut-chunk.ensures.value in
    let put = heap.own_put c.self.inside.chunks.items c.args.object c.args.place c.at_mut-chunk.result.now o found c.at_mut-chunk.ensures.value in
    rw (← c.self.view_is, c.set_ref.ensures, cell, put (with_ref (cell_at c.at_mut-chunk.result.now.cells c.args.object.offset) c.args.field c.args.value))
