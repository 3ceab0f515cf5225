use Rattle.log_lines.proofs.Common.{ap, ◌∙◌, not}
use Rattle.log_lines.proofs.Pieces.{left_by}
use Rattle.log_lines.proofs.words.has_word.Goals as goal

pub returns : goal.returns
returns c = ap not c.is_empty.ensures ∙ left_by c.args.rest.now
