use Rattle.object_layout.proofs.Common.{is_gone, ◌≡◌, sym, ◌∙◌, true, false, cell_at}
use Rattle.object_layout.proofs.PlaceLemmas as place
use Rattle.object_layout.proofs.ReadLemmas as read
use Rattle.object_layout.proofs.chunk.forwarded_at.Goals as goal

pub ref_from_word-requires : goal.ref_from_word-requires
ref_from_word-requires c = let gone : is_gone (cell_at c.args.chunk.now.cells c.args.at).mark ≡ true = sym (read.gone_read _ c.word_at.ensures.cell _ c.word_at.ensures.word) ∙ sym c.is_gone_word.ensures ∙ c.if-is_gone_word.true in let m = read.moved_read (cell_at c.args.chunk.now.cells c.args.at) c.word_at.ensures.cell c.word_at-then-is_gone_word.result c.word_at-then-is_gone_word.ensures.word gone in m.0

pub returns-then-is_gone_word-clause-value : goal.returns-then-is_gone_word-clause-value
returns-then-is_gone_word-clause-value c = let gone : is_gone (cell_at c.args.chunk.now.cells c.args.at).mark ≡ true = sym (read.gone_read _ c.word_at.ensures.cell _ c.word_at.ensures.word) ∙ sym c.is_gone_word.ensures ∙ c.if-is_gone_word.true in let m = read.moved_read (cell_at c.args.chunk.now.cells c.args.at) c.word_at.ensures.cell c.word_at-then-is_gone_word.result c.word_at-then-is_gone_word.ensures.word gone in c.ref_from_word.ensures ∙ m.1

pub returns-then-is_gone_word-clause-place : goal.returns-then-is_gone_word-clause-place
returns-then-is_gone_word-clause-place c = let gone : is_gone (cell_at c.args.chunk.now.cells c.args.at).mark ≡ true = sym (read.gone_read _ c.word_at.ensures.cell _ c.word_at.ensures.word) ∙ sym c.is_gone_word.ensures ∙ c.if-is_gone_word.true in let m = read.moved_read (cell_at c.args.chunk.now.cells c.args.at) c.word_at.ensures.cell c.word_at-then-is_gone_word.result c.word_at-then-is_gone_word.ensures.word gone in rw c.ref_from_word.ensures m.2

pub returns-else-is_gone_word-clause-value : goal.returns-else-is_gone_word-clause-value
returns-else-is_gone_word-clause-value c = let gone : is_gone (cell_at c.args.chunk.now.cells c.args.at).mark ≡ false = sym (read.gone_read _ c.word_at.ensures.cell _ c.word_at.ensures.word) ∙ sym c.is_gone_word.ensures ∙ c.if-is_gone_word.false in sym (read.not_gone_moved (cell_at c.args.chunk.now.cells c.args.at).mark gone)

pub word_at-requires-clause-cell : goal.word_at-requires-clause-cell
word_at-requires-clause-cell c = place.cell_of_object c.args.chunk.now.cells c.args.at c.requires

pub word_at-requires-then-is_gone_word-clause-cell : goal.word_at-requires-then-is_gone_word-clause-cell
word_at-requires-then-is_gone_word-clause-cell c = place.cell_of_object c.args.chunk.now.cells c.args.at c.requires
