use Rattle.std.proofs.Common.{arith}
use Rattle.object_layout.proofs.PlaceLemmas as place
use Rattle.object_layout.proofs.ReadLemmas as read
use Rattle.object_layout.proofs.chunk.ref_at.Goals as goal

pub word_at-requires-clause-cell : goal.word_at-requires-clause-cell
word_at-requires-clause-cell c = place.cell_of_object c.args.chunk.now.cells c.args.at (place.object_with_ref c.args.chunk.now.cells c.args.at c.args.field c.requires)

pub word_at-requires-clause-within : goal.word_at-requires-clause-within
word_at-requires-clause-within c =
    let l = rw (place.object_is c.args.chunk.now.cells c.args.at (place.object_with_ref c.args.chunk.now.cells c.args.at c.args.field c.requires)) at c.requires in
    omega arith

pub ref_from_word-requires : goal.ref_from_word-requires
ref_from_word-requires c =
    let l = rw (place.object_is c.args.chunk.now.cells c.args.at (place.object_with_ref c.args.chunk.now.cells c.args.at c.args.field c.requires)) at c.requires in
    (read.ref_read _ c.word_at.ensures.cell _ c.args.field l c.word_at.ensures.word).0

pub returns-clause-value : goal.returns-clause-value
returns-clause-value c =
    let is = place.object_is c.args.chunk.now.cells c.args.at (place.object_with_ref c.args.chunk.now.cells c.args.at c.args.field c.requires) in
    rw (is, c.ref_from_word.ensures) (read.ref_read _ c.word_at.ensures.cell _ c.args.field (rw is at c.requires) c.word_at.ensures.word).1

pub returns-clause-place : goal.returns-clause-place
returns-clause-place c =
    let l = rw (place.object_is c.args.chunk.now.cells c.args.at (place.object_with_ref c.args.chunk.now.cells c.args.at c.args.field c.requires)) at c.requires in
    rw c.ref_from_word.ensures (read.ref_read _ c.word_at.ensures.cell _ c.args.field l c.word_at.ensures.word).2
