use Rattle.leaf_heap.proofs.Common.{arith, refl, sym, Born, with_mark, cell_at}
use Rattle.object_layout.proofs.ChunkLaws as chunks
use Rattle.leaf_heap.proofs.HeapLemmas as heap
use Rattle.leaf_heap.proofs.contents.Contents.own_set_birth.Goals as goal

pub own_place-i-requires : goal.own_place-i-requires
own_place-i-requires c = chunks.chunk_of_object c.args.self.now.chunks c.args.object c.requires

pub at_mut-chunk-requires : goal.at_mut-chunk-requires
at_mut-chunk-requires c =
    let o = rw (← c.self.view_is) at c.requires in
    let found = rw (← c.self.view_is) at c.own_place-i.ensures in
    let in' = chunks.chunk_of_object c.self.inside.chunks.items c.args.object o in
    omega arith

pub set_birth-requires : goal.set_birth-requires
set_birth-requires c =
    let o = rw (← c.self.view_is) at c.requires in
    let found = rw (← c.self.view_is) at c.own_place-i.ensures in
    rw (heap.own_cell c.self.inside.chunks.items c.args.object c.own_place-i.result c.at_mut-chunk.result.now o found c.at_mut-chunk.ensures.value) at o

pub invariant_of-self : goal.invariant_of-self
invariant_of-self c =
    let o = rw (← c.self.view_is) at c.requires in
    let found = rw (← c.self.view_is) at c.own_place-i.ensures in
    rw c.set_birth.ensures
    (heap.own_changed c.self.inside.chunks.items c.args.object c.own_place-i.result c.at_mut-chunk.result.now o found c.at_mut-chunk.ensures.value
    _ _ _ _ _ _ _ _ _ c.self.invariant (with_mark (cell_at c.at_mut-chunk.result.now.cells c.args.object.offset) (Born c.args.birth)) (λ n. sym (heap.held_object (cell_at c.at_mut-chunk.result.now.cells c.args.object.offset).mark n (rw (heap.own_cell c.self.inside.chunks.items c.args.object c.own_place-i.result c.at_mut-chunk.result.now o found c.at_mut-chunk.ensures.value) at o))) refl _ c.number.result c.number.ensures c.note_change.ensures.noted)

pub returns : goal.returns
returns c =
    let o = rw (← c.self.view_is) at c.requires in
    let found = rw (← c.self.view_is) at c.own_place-i.ensures in
    let cell = heap.own_cell c.self.inside.chunks.items c.args.object c.own_place-i.result c.at_mut-chunk.result.now o found c.at_mut-chunk.ensures.value in
    let put = heap.own_put c.self.inside.chunks.items c.args.object c.own_place-i.result c.at_mut-chunk.result.now o found c.at_mut-chunk.ensures.value in
    rw (← c.self.view_is, c.set_birth.ensures, cell, put (with_mark (cell_at c.at_mut-chunk.result.now.cells c.args.object.offset) (Born c.args.birth)))
