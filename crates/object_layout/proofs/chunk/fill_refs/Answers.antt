use Rattle.object_layout.proofs.Common.{◌≡◌, ◌+◌, ◌<◌, length, refl, ap, sym, subst, ◌∙◌, arith, with_ref, with_cell, ChunkValue, cell_at, object_at}
use Rattle.object_layout.proofs.FillLemmas.{refs_begun, refs_done, refs_more, refs_within}
use Rattle.object_layout.proofs.chunk.fill_refs.Goals as goal

pub loop-k-init : goal.loop-k-init
loop-k-init c = refs_begun c.args.chunk.now c.args.at c.requires.object c.args.refs.now

pub loop-k-preserved : goal.loop-k-preserved
loop-k-preserved c =
    let h = c.args.chunk.now in
    let a = c.args.at in
    let vs = c.args.refs.now in
    let fields = c.requires.fields in
    let inside : c.loop-k.k < length vs = c.loop-k-test.true in
    c.set_ref.ensures
    ∙ (ap (λ (z : ChunkValue). with_cell z a (with_ref (cell_at z.cells a) c.loop-k.k c.item-value.result)) c.loop-k.invariant
    ∙ refs_more h a c.requires.object vs c.loop-k.k (c.loop-k.k + 1) c.item-value.result c.item-value.ensures inside (omega arith) refl)

pub set_ref-requires-clause-field : goal.set_ref-requires-clause-field
set_ref-requires-clause-field c =
    let h = c.args.chunk.now in
    let a = c.args.at in
    let vs = c.args.refs.now in
    let fields = c.requires.fields in
    let inside : c.loop-k.k < length vs = c.loop-k-test.true in
    let P : ChunkValue → Type 0 = λ z. c.loop-k.k < length (object_at z.cells a).refs in
    subst P (sym c.loop-k.invariant) (refs_within h a c.requires.object vs c.loop-k.k (omega arith) (omega arith))

pub returns : goal.returns
returns c =
    let done : c.loop-k.k ≡ length c.args.refs.now = omega arith in
    c.loop-k.invariant ∙ refs_done c.args.chunk.now c.args.at c.requires.object c.args.refs.now c.loop-k.k done c.requires.fields
