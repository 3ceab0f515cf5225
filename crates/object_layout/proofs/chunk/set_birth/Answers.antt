use Rattle.object_layout.proofs.Common.{length-set, ◌+◌, set, arith, ◌∙◌, ap, false, Header, with_mark, Born, header_word, cell_at, put_cell, HoldsCells}
use Rattle.object_layout.proofs.WriteLemmas as write
use Rattle.object_layout.proofs.HoldLemmas as hold
use Rattle.object_layout.proofs.PlaceLemmas as place
use Rattle.object_layout.proofs.chunk.set_birth.Goals as goal

new_holds : (c : goal.After-chunk-2-1) →
    HoldsCells (set (set c.chunk.inside.words.items c.args.at c.header_to_word.result) (c.args.at + 1) c.birth_to_word.result) c.chunk.inside.used
    (put_cell c.args.chunk.now.cells c.args.at (with_mark (cell_at c.args.chunk.now.cells c.args.at) (Born c.args.birth)))
new_holds c =
    let o = hold.object_in c.chunk.inside.number c.chunk.inside.words.items c.chunk.inside.used c.args.chunk.now c.chunk.view_is c.chunk.invariant c.args.at (place.cell_of_object c.args.chunk.now.cells c.args.at c.requires) in
    let is = place.object_is c.args.chunk.now.cells c.args.at c.requires in
    let kind = c.header_to_word.ensures ∙ ap (λ (h : Header). header_word h.nrefs h.nints h.mutable false) (rw is at c.header_at-header.ensures.kind) in
    let ok = write.IsCell-with_mark (cell_at c.args.chunk.now.cells c.args.at) (Born c.args.birth) o.cell c.birth_to_word.ensures.fits in
    rw (c.birth_to_word.ensures.word, kind) (hold.held_set_two c.chunk.inside.words.items c.chunk.inside.used c.args.chunk.now.cells o.holds c.args.at (place.cell_of_object c.args.chunk.now.cells c.args.at c.requires) _ _ (with_mark (cell_at c.args.chunk.now.cells c.args.at) (Born c.args.birth)) ok (write.words_of_cell-with_mark (cell_at c.args.chunk.now.cells c.args.at) (Born c.args.birth)))

pub index_mut-requires : goal.index_mut-requires
index_mut-requires c = let o = hold.object_in c.chunk.inside.number c.chunk.inside.words.items c.chunk.inside.used c.args.chunk.now c.chunk.view_is c.chunk.invariant c.args.at (place.cell_of_object c.args.chunk.now.cells c.args.at c.requires) in omega arith

pub index_mut-requires-2 : goal.index_mut-requires-2
index_mut-requires-2 c = let o = hold.object_in c.chunk.inside.number c.chunk.inside.words.items c.chunk.inside.used c.args.chunk.now c.chunk.view_is c.chunk.invariant c.args.at (place.cell_of_object c.args.chunk.now.cells c.args.at c.requires) in omega arith

pub invariant_of-chunk : goal.invariant_of-chunk
invariant_of-chunk c = hold.held_again _ _ _ (new_holds c)

pub returns : goal.returns
returns c = hold.seen_again c.chunk.inside.number c.chunk.inside.words.items c.chunk.inside.used c.args.chunk.now c.chunk.view_is _ _ _ (new_holds c) (simp length-set)
