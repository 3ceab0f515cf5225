use Rattle.text_faults.proofs.Pieces.{comment_at, word_more, word_last}
use Rattle.std.proofs.Common.{sym, ◌∙◌}
use Rattle.text_faults.proofs.placed.placed_at.Goals as goal

pub returns-then-begins_comment-clause-words : goal.returns-then-begins_comment-clause-words
returns-then-begins_comment-clause-words c =
    comment_at c.args.line.now c.args.start c.args.size c.rest_from-rest.result.now c.rest_from-rest.ensures c.requires.ends c.requires.within (sym c.begins_comment.ensures ∙ c.if-begins_comment.true)

pub returns-then-start-size-clause-words : goal.returns-then-start-size-clause-words
returns-then-start-size-clause-words c =
    word_more c.args.line.now c.args.start c.args.size c.rest_from-rest.result.now c.rest_from-rest.ensures c.requires.ends c.requires.within (sym c.begins_comment.ensures ∙ c.if-begins_comment.false) c.requires.some c.if-start-size.true

pub returns-clause-words : goal.returns-clause-words
returns-clause-words c =
    word_last c.args.line.now c.args.start c.args.size c.rest_from-rest.result.now c.rest_from-rest.ensures c.requires.ends c.requires.within (sym c.begins_comment.ensures ∙ c.if-begins_comment.false) c.requires.some c.if-start-size.false
