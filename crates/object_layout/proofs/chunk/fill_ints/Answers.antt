use Rattle.object_layout.proofs.Common.{◌≡◌, ◌+◌, ◌<◌, length, refl, ap, sym, subst, ◌∙◌, arith, to_z, of_z, rules, to_z-of_z, cell_with_int, with_cell, ChunkValue, cell_at, object_at}
use Rattle.std.proofs.Common.{w64}
use Rattle.object_layout.proofs.FillLemmas.{ints_begun, ints_done, ints_more, ints_within}
use Rattle.object_layout.proofs.chunk.fill_ints.Goals as goal

pub loop-k-init : goal.loop-k-init
loop-k-init c = ints_begun c.args.chunk.now c.args.at c.requires.object c.args.ints.now

pub loop-k-preserved : goal.loop-k-preserved
loop-k-preserved c =
    let h = c.args.chunk.now in
    let a = c.args.at in
    let vs = c.args.ints.now in
    let fields = c.requires.fields in
    let inside : c.loop-k.k < length vs = c.loop-k-test.true in
    let back : to_z w64 (of_z w64 c.item-value.result) ≡ c.item-value.result = to_z-of_z w64 c.item-value.result (search rules) in
    c.set_int.ensures
    ∙ (ap (λ v. with_cell c.loop-k.chunk a (cell_with_int (cell_at c.loop-k.chunk.cells a) c.loop-k.k v)) back
    ∙ (ap (λ (z : ChunkValue). with_cell z a (cell_with_int (cell_at z.cells a) c.loop-k.k c.item-value.result)) c.loop-k.invariant
    ∙ ints_more h a c.requires.object vs c.loop-k.k (c.loop-k.k + 1) c.item-value.result c.item-value.ensures inside (omega arith) refl))

pub set_int-requires : goal.set_int-requires
set_int-requires c =
    let h = c.args.chunk.now in
    let a = c.args.at in
    let vs = c.args.ints.now in
    let fields = c.requires.fields in
    let inside : c.loop-k.k < length vs = c.loop-k-test.true in
    let P : ChunkValue → Type 0 = λ z. c.loop-k.k < length (object_at z.cells a).ints in
    subst P (sym c.loop-k.invariant) (ints_within h a c.requires.object vs c.loop-k.k (omega arith) (omega arith))

pub returns : goal.returns
returns c =
    let done : c.loop-k.k ≡ length c.args.ints.now = omega arith in
    c.loop-k.invariant ∙ ints_done c.args.chunk.now c.args.at c.requires.object c.args.ints.now c.loop-k.k done c.requires.fields
