use Rattle.object_layout.proofs.Common.{length-set, get_or_read, bit_or, ◌≡◌, ◌+◌, ◌<◌, length, set, arith, ◌∙◌, with_mark, Hole, cell_at, put_cell, HoldsCells}
use Rattle.object_layout.proofs.WriteLemmas as write
use Rattle.object_layout.proofs.HoldLemmas as hold
use Rattle.object_layout.proofs.PlaceLemmas as place
use Rattle.object_layout.proofs.ReadLemmas as read
use Rattle.object_layout.proofs.chunk.drop_at.Goals as goal

new_holds : (c : goal.After-chunk-2-1) →
    HoldsCells (set (set c.chunk.inside.words.items c.args.at (bit_or c.index_mut.result.now 2199023255552)) (c.args.at + 1) 0) c.chunk.inside.used
    (put_cell c.args.chunk.now.cells c.args.at (with_mark (cell_at c.args.chunk.now.cells c.args.at) Hole))
new_holds c =
    let o = hold.object_in c.chunk.inside.number c.chunk.inside.words.items c.chunk.inside.used c.args.chunk.now c.chunk.view_is c.chunk.invariant c.args.at (place.cell_of_object c.args.chunk.now.cells c.args.at c.requires) in
    let start : c.args.at + 0 ≡ c.args.at = omega arith in
    let at : c.args.at < length c.chunk.inside.words.items = omega arith in
    let header = rw start at (hold.held_word c.chunk.inside.words.items c.chunk.inside.used c.args.chunk.now.cells o.holds c.args.at (place.cell_of_object c.args.chunk.now.cells c.args.at c.requires) 0 0 (omega arith)) in
    let was = get_or_read c.chunk.inside.words.items c.args.at c.index_mut.result.now at c.index_mut.ensures.value 0 ∙ header ∙ read.header_is (cell_at c.args.chunk.now.cells c.args.at) in
    let bits = write.gone_written (cell_at c.args.chunk.now.cells c.args.at) o.cell c.index_mut.result.now was in
    let ok = write.IsCell-with_mark (cell_at c.args.chunk.now.cells c.args.at) Hole o.cell tt in
    rw (bits) (hold.held_set_two c.chunk.inside.words.items c.chunk.inside.used c.args.chunk.now.cells o.holds c.args.at (place.cell_of_object c.args.chunk.now.cells c.args.at c.requires) _ _ (with_mark (cell_at c.args.chunk.now.cells c.args.at) Hole) ok (write.words_of_cell-with_mark (cell_at c.args.chunk.now.cells c.args.at) Hole))

pub index_mut-requires : goal.index_mut-requires
index_mut-requires c = let o = hold.object_in c.chunk.inside.number c.chunk.inside.words.items c.chunk.inside.used c.args.chunk.now c.chunk.view_is c.chunk.invariant c.args.at (place.cell_of_object c.args.chunk.now.cells c.args.at c.requires) in omega arith

pub index_mut-requires-2 : goal.index_mut-requires-2
index_mut-requires-2 c = let o = hold.object_in c.chunk.inside.number c.chunk.inside.words.items c.chunk.inside.used c.args.chunk.now c.chunk.view_is c.chunk.invariant c.args.at (place.cell_of_object c.args.chunk.now.cells c.args.at c.requires) in omega arith

pub invariant_of-chunk : goal.invariant_of-chunk
invariant_of-chunk c = hold.held_again _ _ _ (new_holds c)

pub returns : goal.returns
returns c = hold.seen_again c.chunk.inside.number c.chunk.inside.words.items c.chunk.inside.used c.args.chunk.now c.chunk.view_is _ _ _ (new_holds c) (simp length-set)
