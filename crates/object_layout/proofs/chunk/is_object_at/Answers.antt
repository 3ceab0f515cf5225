use Rattle.object_layout.proofs.Common.{◌≡◌, ◌∙◌, sym, true, false, not, is_gone, cell_at}
use Rattle.object_layout.proofs.ReadLemmas as read
use Rattle.object_layout.proofs.chunk.is_object_at.Goals as goal

pub returns-then-not-is_gone_word : goal.returns-then-not-is_gone_word
returns-then-not-is_gone_word c =
    let gone : is_gone (cell_at c.args.chunk.now.cells c.args.at).mark ≡ false =
    sym (read.gone_read _ c.word_at.ensures.cell _ c.word_at.ensures.word) ∙ sym c.is_gone_word.ensures ∙ c.if-not-is_gone_word.true in
    let yes : not c.is_gone_word.result ≡ true = rw c.if-not-is_gone_word.true in
    read.kept_object (cell_at c.args.chunk.now.cells c.args.at).mark _ gone yes

pub returns-else-not-is_gone_word : goal.returns-else-not-is_gone_word
returns-else-not-is_gone_word c =
    let gone : is_gone (cell_at c.args.chunk.now.cells c.args.at).mark ≡ true =
    sym (read.gone_read _ c.word_at.ensures.cell _ c.word_at.ensures.word) ∙ sym c.is_gone_word.ensures ∙ c.if-not-is_gone_word.false in
    read.gone_object (cell_at c.args.chunk.now.cells c.args.at).mark c.word_at-else-not-is_gone_word.result gone
    (c.word_at-else-not-is_gone_word.ensures.word ∙ read.mark_is (cell_at c.args.chunk.now.cells c.args.at))
