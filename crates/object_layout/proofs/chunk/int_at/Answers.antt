use Rattle.object_layout.proofs.Common.{◌≡◌, length, arith, sym, ap, ◌∙◌, rules, Some, to_z-of_z, w64, Header, cell_at}
use Rattle.object_layout.proofs.PlaceLemmas as place
use Rattle.object_layout.proofs.ReadLemmas as read
use Rattle.object_layout.proofs.chunk.int_at.Goals as goal

pub header_at-nrefs-requires : goal.header_at-nrefs-requires
header_at-nrefs-requires c = place.object_with_int c.args.chunk.now.cells c.args.at c.args.field c.requires

pub word_at-requires-clause-cell : goal.word_at-requires-clause-cell
word_at-requires-clause-cell c = place.cell_of_object c.args.chunk.now.cells c.args.at (place.object_with_int c.args.chunk.now.cells c.args.at c.args.field c.requires)

pub word_at-requires-clause-within : goal.word_at-requires-clause-within
word_at-requires-clause-within c =
    let is = place.object_is c.args.chunk.now.cells c.args.at (place.object_with_int c.args.chunk.now.cells c.args.at c.args.field c.requires) in
    let l = rw is at c.requires in
    let nr : c.header_at-nrefs.result.nrefs ≡ length (cell_at c.args.chunk.now.cells c.args.at).refs = ap (λ (h : Header). h.nrefs) (rw is at c.header_at-nrefs.ensures.kind) in
    omega arith

pub returns : goal.returns
returns c =
    let is = place.object_is c.args.chunk.now.cells c.args.at (place.object_with_int c.args.chunk.now.cells c.args.at c.args.field c.requires) in
    let l = rw is at c.requires in
    let nr : c.header_at-nrefs.result.nrefs ≡ length (cell_at c.args.chunk.now.cells c.args.at).refs = ap (λ (h : Header). h.nrefs) (rw is at c.header_at-nrefs.ensures.kind) in
    let at = rw nr at c.word_at.ensures.word in
    let z = read.int_read (cell_at c.args.chunk.now.cells c.args.at) c.word_at.ensures.cell c.word_at.result c.args.field l at in
    let back = to_z-of_z w64 c.cast_signed.result (search rules) in
    rw is (z ∙ ap Some (sym (back ∙ c.cast_signed.ensures)))
