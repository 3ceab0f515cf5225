use Rattle.log_pieces.proofs.Common.{◌∙◌, sym}
use Rattle.log_pieces.proofs.Whole.{feedless}
use Rattle.log_pieces.proofs.text.without_feed.Goals as goal

pub returns-then-last-eq10 : goal.returns-then-last-eq10
returns-then-last-eq10 c = feedless c.args.text.now (sym c.is_empty.ensures ∙ c.if-is_empty.false) c.if-last-eq10.true
