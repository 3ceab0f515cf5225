use Rattle.object_layout.proofs.Common.{◌≡◌, ◌+◌, ◌<◌, length, set, arith, ◌∙◌, length-set, get_or_read, bit_and, frozen, cell_at, put_cell, HoldsCells}
use Rattle.object_layout.proofs.HoldLemmas as hold
use Rattle.object_layout.proofs.PlaceLemmas as place
use Rattle.object_layout.proofs.ReadLemmas as read
use Rattle.object_layout.proofs.WriteLemmas as write
use Rattle.object_layout.proofs.chunk.freeze.Goals as goal

new_holds : (c : goal.After-chunk-1) →
    HoldsCells (set c.chunk.inside.words.items c.args.at (bit_and c.index_mut.result.now 18446742974197923839)) c.chunk.inside.used
    (put_cell c.args.chunk.now.cells c.args.at (frozen (cell_at c.args.chunk.now.cells c.args.at)))
new_holds c =
    let cell = place.cell_of_object c.args.chunk.now.cells c.args.at c.requires in
    let o = hold.object_in c.chunk.inside.number c.chunk.inside.words.items c.chunk.inside.used c.args.chunk.now c.chunk.view_is c.chunk.invariant c.args.at cell in
    let start : c.args.at + 0 ≡ c.args.at = omega arith in
    let at : c.args.at < length c.chunk.inside.words.items = omega arith in
    let header = rw start at (hold.held_word c.chunk.inside.words.items c.chunk.inside.used c.args.chunk.now.cells o.holds c.args.at cell 0 0 (omega arith)) in
    let was = get_or_read c.chunk.inside.words.items c.args.at c.index_mut.result.now at c.index_mut.ensures.value 0 ∙ header ∙ read.header_is (cell_at c.args.chunk.now.cells c.args.at) in
    let bits = write.frozen_written (cell_at c.args.chunk.now.cells c.args.at) o.cell c.index_mut.result.now was in
    let ok = write.IsCell-frozen (cell_at c.args.chunk.now.cells c.args.at) o.cell in
    rw bits (rw start at (hold.held_set c.chunk.inside.words.items c.chunk.inside.used c.args.chunk.now.cells o.holds c.args.at cell 0 _ (frozen (cell_at c.args.chunk.now.cells c.args.at)) (omega arith) ok (write.words_of_cell-frozen (cell_at c.args.chunk.now.cells c.args.at))))

pub index_mut-requires : goal.index_mut-requires
index_mut-requires c =
    let cell = place.cell_of_object c.args.chunk.now.cells c.args.at c.requires in
    let o = hold.object_in c.chunk.inside.number c.chunk.inside.words.items c.chunk.inside.used c.args.chunk.now c.chunk.view_is c.chunk.invariant c.args.at cell in
    omega arith

pub invariant_of-chunk : goal.invariant_of-chunk
invariant_of-chunk c = hold.held_again _ _ _ (new_holds c)

pub returns : goal.returns
returns c = hold.seen_again c.chunk.inside.number c.chunk.inside.words.items c.chunk.inside.used c.args.chunk.now c.chunk.view_is _ _ _ (new_holds c) (simp length-set)
