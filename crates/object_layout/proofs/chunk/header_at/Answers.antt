use Rattle.std.proofs.Common.{arith}
use Rattle.object_layout.proofs.PlaceLemmas as place
use Rattle.object_layout.proofs.ReadLemmas as read
use Rattle.object_layout.proofs.chunk.header_at.Goals as goal

pub word_at-requires-clause-cell : goal.word_at-requires-clause-cell
word_at-requires-clause-cell c = place.cell_of_object c.args.chunk.now.cells c.args.at c.requires

pub word_at-requires-clause-within : goal.word_at-requires-clause-within
word_at-requires-clause-within c = omega arith

pub returns-clause-kind : goal.returns-clause-kind
returns-clause-kind c =
    rw (place.object_is c.args.chunk.now.cells c.args.at c.requires)
    (read.header_read _ c.word_at.ensures.cell _ c.word_at.ensures.word _ c.header_from_word.ensures)

pub returns-clause-refs : goal.returns-clause-refs
returns-clause-refs c =
    rw (read.header_read _ c.word_at.ensures.cell _ c.word_at.ensures.word _ c.header_from_word.ensures) c.word_at.ensures.cell.nrefs

pub returns-clause-ints : goal.returns-clause-ints
returns-clause-ints c =
    rw (read.header_read _ c.word_at.ensures.cell _ c.word_at.ensures.word _ c.header_from_word.ensures) c.word_at.ensures.cell.nints
