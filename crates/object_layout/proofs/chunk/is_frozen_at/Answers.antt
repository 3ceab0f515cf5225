use Rattle.object_layout.proofs.Common.{◌≡◌, ◌∙◌, sym, ap, true, false, not, Header, is_gone, cell_at}
use Rattle.object_layout.proofs.ReadLemmas as read
use Rattle.object_layout.proofs.chunk.is_frozen_at.Goals as goal

pub returns-then-not-is_gone_word : goal.returns-then-not-is_gone_word
returns-then-not-is_gone_word c =
    let gone : is_gone (cell_at c.args.chunk.now.cells c.args.at).mark ≡ false =
    sym (read.gone_read _ c.word_at-word.ensures.cell _ c.word_at-word.ensures.word) ∙ sym c.is_gone_word.ensures ∙ c.if-not-is_gone_word.true in
    let kind = read.header_read _ c.word_at-word.ensures.cell _ c.word_at-word.ensures.word _ c.header_from_word.ensures in
    ap (λ (h : Header). not h.mutable) kind ∙ read.born_frozen (cell_at c.args.chunk.now.cells c.args.at).mark (cell_at c.args.chunk.now.cells c.args.at).mutable gone

pub returns-else-not-is_gone_word : goal.returns-else-not-is_gone_word
returns-else-not-is_gone_word c =
    let gone : is_gone (cell_at c.args.chunk.now.cells c.args.at).mark ≡ true =
    sym (read.gone_read _ c.word_at-word.ensures.cell _ c.word_at-word.ensures.word) ∙ sym c.is_gone_word.ensures ∙ c.if-not-is_gone_word.false in
    read.gone_frozen (cell_at c.args.chunk.now.cells c.args.at).mark (cell_at c.args.chunk.now.cells c.args.at).mutable c.is_gone_word.result gone c.if-not-is_gone_word.false
