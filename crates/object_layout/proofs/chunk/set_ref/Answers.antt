use Rattle.object_layout.proofs.Common.{length-set, ◌+◌, set, arith, with_ref, cell_at, put_cell, HoldsCells}
use Rattle.object_layout.proofs.WriteLemmas as write
use Rattle.object_layout.proofs.HoldLemmas as hold
use Rattle.object_layout.proofs.PlaceLemmas as place
use Rattle.object_layout.proofs.chunk.set_ref.Goals as goal

new_holds : (c : goal.After-chunk-1) →
    HoldsCells (set c.chunk.inside.words.items (c.args.at + (2 + c.args.field)) c.ref_to_word.result) c.chunk.inside.used
    (put_cell c.args.chunk.now.cells c.args.at (with_ref (cell_at c.args.chunk.now.cells c.args.at) c.args.field c.args.value))
new_holds c =
    let o = hold.object_in c.chunk.inside.number c.chunk.inside.words.items c.chunk.inside.used c.args.chunk.now c.chunk.view_is c.chunk.invariant c.args.at (place.cell_of_object c.args.chunk.now.cells c.args.at (place.object_with_ref c.args.chunk.now.cells c.args.at c.args.field c.requires.field)) in
    let l = rw (place.object_is c.args.chunk.now.cells c.args.at (place.object_with_ref c.args.chunk.now.cells c.args.at c.args.field c.requires.field)) at c.requires.field in
    let e = write.words_of_cell-with_ref (cell_at c.args.chunk.now.cells c.args.at) c.args.field c.args.value l in
    let ok = write.IsCell-with_ref (cell_at c.args.chunk.now.cells c.args.at) c.args.field c.args.value o.cell c.ref_to_word.ensures.fits in
    rw c.ref_to_word.ensures.word (hold.held_set c.chunk.inside.words.items c.chunk.inside.used c.args.chunk.now.cells o.holds c.args.at (place.cell_of_object c.args.chunk.now.cells c.args.at (place.object_with_ref c.args.chunk.now.cells c.args.at c.args.field c.requires.field)) (2 + c.args.field) _ (with_ref (cell_at c.args.chunk.now.cells c.args.at) c.args.field c.args.value) (omega arith) ok e)

pub index_mut-requires : goal.index_mut-requires
index_mut-requires c =
    let l = rw (place.object_is c.args.chunk.now.cells c.args.at (place.object_with_ref c.args.chunk.now.cells c.args.at c.args.field c.requires.field)) at c.requires.field in
    let o = hold.object_in c.chunk.inside.number c.chunk.inside.words.items c.chunk.inside.used c.args.chunk.now c.chunk.view_is c.chunk.invariant c.args.at (place.cell_of_object c.args.chunk.now.cells c.args.at (place.object_with_ref c.args.chunk.now.cells c.args.at c.args.field c.requires.field)) in omega arith

pub invariant_of-chunk : goal.invariant_of-chunk
invariant_of-chunk c = hold.held_again _ _ _ (new_holds c)

pub returns : goal.returns
returns c = hold.seen_again c.chunk.inside.number c.chunk.inside.words.items c.chunk.inside.used c.args.chunk.now c.chunk.view_is _ _ _ (new_holds c) (simp length-set)
