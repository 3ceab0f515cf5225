use Rattle.leaf_heap.proofs.Common.{arith, refl, sym, Moved, with_mark, cell_at}
use Rattle.object_layout.proofs.ChunkLaws as chunks
use Rattle.leaf_heap.proofs.HeapLemmas as heap
use Rattle.leaf_heap.proofs.contents.Contents.forward_in.Goals as goal

pub at_mut-chunk-requires : goal.at_mut-chunk-requires
at_mut-chunk-requires c =
    let o = rw (← c.self.view_is) at c.requires.object in
    let found = (chunks.place_found c.self.inside.chunks.items c.args.object.chunk c.args.place (rw (← c.self.view_is) at c.requires.place)).0 in
    let in' = chunks.chunk_of_object c.self.inside.chunks.items c.args.object o in
    omega arith

pub forward-requires-clause-object : goal.forward-requires-clause-object
forward-requires-clause-object c =
    let o = rw (← c.self.view_is) at c.requires.object in
    let found = (chunks.place_found c.self.inside.chunks.items c.args.object.chunk c.args.place (rw (← c.self.view_is) at c.requires.place)).0 in
    rw (heap.own_cell c.self.inside.chunks.items c.args.object c.args.place c.at_mut-chunk.result.now o found c.at_mut-chunk.ensures.value) at o

pub invariant_of-self : goal.invariant_of-self
invariant_of-self c =
    let o = rw (← c.self.view_is) at c.requires.object in
    let found = (chunks.place_found c.self.inside.chunks.items c.args.object.chunk c.args.place (rw (← c.self.view_is) at c.requires.place)).0 in
    rw c.forward.ensures
    (heap.own_changed c.self.inside.chunks.items c.args.object c.args.place c.at_mut-chunk.result.now o found c.at_mut-chunk.ensures.value
    _ _ _ _ _ _ _ _ _ c.self.invariant (with_mark (cell_at c.at_mut-chunk.result.now.cells c.args.object.offset) (Moved c.args.to)) (λ n. sym (heap.held_object (cell_at c.at_mut-chunk.result.now.cells c.args.object.offset).mark n (rw (heap.own_cell c.self.inside.chunks.items c.args.object c.args.place c.at_mut-chunk.result.now o found c.at_mut-chunk.ensures.value) at o))) refl _ c.number.result c.number.ensures c.note_change.ensures.noted)

pub returns : goal.returns
returns c =
    let o = rw (← c.self.view_is) at c.requires.object in
    let found = (chunks.place_found c.self.inside.chunks.items c.args.object.chunk c.args.place (rw (← c.self.view_is) at c.requires.place)).0 in
    let cell = heap.own_cell c.self.inside.chunks.items c.args.object c.args.place c.at_mut-chunk.result.now o found c.at_mut-chunk.ensures.value in
    let put = heap.own_put c.self.inside.chunks.items c.args.object c.args.place c.at_mut-chunk.result.now o found c.at_mut-chunk.ensures.value in
    rw (← c.self.view_is, c.forward.ensures, cell, put (with_mark (cell_at c.at_mut-chunk.result.now.cells c.args.object.offset) (Moved c.args.to)))
