use Rattle.object_layout.proofs.Common.{length-set, to_z-of_z, w64, ◌≡◌, ◌+◌, length, set, arith, cell_with_int, cell_at, put_cell, HoldsCells}
use Rattle.object_layout.proofs.WriteLemmas as write
use Rattle.object_layout.proofs.HoldLemmas as hold
use Rattle.object_layout.proofs.PlaceLemmas as place
use Rattle.object_layout.proofs.chunk.set_int_behind.Goals as goal

new_holds : (c : goal.After-chunk-1) →
    HoldsCells (set c.chunk.inside.words.items (c.args.at + (2 + (c.args.nrefs + c.args.field))) c.cast_unsigned.result) c.chunk.inside.used
    (put_cell c.args.chunk.now.cells c.args.at (cell_with_int (cell_at c.args.chunk.now.cells c.args.at) c.args.field c.args.value))
new_holds c =
    let is = place.object_is c.args.chunk.now.cells c.args.at (place.object_with_int c.args.chunk.now.cells c.args.at c.args.field c.requires.field) in
    let l = rw is at c.requires.field in
    let o = hold.object_in c.chunk.inside.number c.chunk.inside.words.items c.chunk.inside.used c.args.chunk.now c.chunk.view_is c.chunk.invariant c.args.at (place.cell_of_object c.args.chunk.now.cells c.args.at (place.object_with_int c.args.chunk.now.cells c.args.at c.args.field c.requires.field)) in
    let nr : c.args.nrefs ≡ length (cell_at c.args.chunk.now.cells c.args.at).refs = rw is at c.requires.refs in
    let e = write.words_of_cell-with_int (cell_at c.args.chunk.now.cells c.args.at) c.args.field c.args.value l in
    let ok = write.IsCell-with_int (cell_at c.args.chunk.now.cells c.args.at) c.args.field c.args.value o.cell c.ranges.value in
    let back = to_z-of_z w64 c.args.value c.ranges.value in rw (c.cast_unsigned.ensures, back, nr) (hold.held_set c.chunk.inside.words.items c.chunk.inside.used c.args.chunk.now.cells o.holds c.args.at (place.cell_of_object c.args.chunk.now.cells c.args.at (place.object_with_int c.args.chunk.now.cells c.args.at c.args.field c.requires.field)) (2 + (length (cell_at c.args.chunk.now.cells c.args.at).refs + c.args.field)) _ (cell_with_int (cell_at c.args.chunk.now.cells c.args.at) c.args.field c.args.value) (omega arith) ok e)

pub index_mut-requires : goal.index_mut-requires
index_mut-requires c =
    let is = place.object_is c.args.chunk.now.cells c.args.at (place.object_with_int c.args.chunk.now.cells c.args.at c.args.field c.requires.field) in
    let l = rw is at c.requires.field in
    let o = hold.object_in c.chunk.inside.number c.chunk.inside.words.items c.chunk.inside.used c.args.chunk.now c.chunk.view_is c.chunk.invariant c.args.at (place.cell_of_object c.args.chunk.now.cells c.args.at (place.object_with_int c.args.chunk.now.cells c.args.at c.args.field c.requires.field)) in let nr : c.args.nrefs ≡ length (cell_at c.args.chunk.now.cells c.args.at).refs = rw is at c.requires.refs in omega arith

pub invariant_of-chunk : goal.invariant_of-chunk
invariant_of-chunk c = hold.held_again _ _ _ (new_holds c)

pub returns : goal.returns
returns c = hold.seen_again c.chunk.inside.number c.chunk.inside.words.items c.chunk.inside.used c.args.chunk.now c.chunk.view_is _ _ _ (new_holds c) (simp length-set)
