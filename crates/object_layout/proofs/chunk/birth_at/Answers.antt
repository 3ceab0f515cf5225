use Rattle.object_layout.proofs.Common.{Born, sym, ap, ◌∙◌, arith}
use Rattle.object_layout.proofs.PlaceLemmas as place
use Rattle.object_layout.proofs.ReadLemmas as read
use Rattle.object_layout.proofs.chunk.birth_at.Goals as goal

pub returns : goal.returns
returns c =
    read.birth_read _ c.word_at.ensures.cell _ c.word_at.ensures.word c.requires ∙ ap Born (sym c.birth_from_word.ensures)

pub word_at-requires-clause-cell : goal.word_at-requires-clause-cell
word_at-requires-clause-cell c = place.cell_of_object c.args.chunk.now.cells c.args.at (place.object_when_born c.args.chunk.now.cells c.args.at c.requires)

pub word_at-requires-clause-within : goal.word_at-requires-clause-within
word_at-requires-clause-within c = omega arith
