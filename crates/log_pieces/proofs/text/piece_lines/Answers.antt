use Rattle.log_pieces.proofs.Common.{◌∙◌, ap, acts_in}
use Rattle.log_pieces.proofs.text.piece_lines.Goals as goal

pub returns : goal.returns
returns c = c.without_feed.ensures ∙ ap acts_in c.piece_text.ensures
