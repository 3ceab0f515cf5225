use Rattle.std.proofs.Common.{◌∙◌}
use Rattle.log_lines.proofs.Pieces.{first_word_of, rest_as_cut}
use Rattle.log_lines.proofs.words.first_word.Goals as goal

pub returns : goal.returns
returns c = first_word_of c.args.text.now c.word_end-end.result c.word_end-end.ensures.end c.word_end-end.ensures.within ∙ rest_as_cut c.args.text.now c.word_end-end.result
