use Rattle.log_pieces.proofs.Common.{◌∙◌, contains, is_pair, is_that}
use Rattle.log_pieces.proofs.Known.{cond_or}
use Rattle.log_pieces.proofs.claims.Claims.end.Goals as goal

pub returns-clause-ended : goal.returns-clause-ended
returns-clause-ended c = λ t i. c.in_ok-insert.ensures.updates.0 (t, i) ∙ cond_or (is_that c.args.strand t i) (contains is_pair c.args.self.now.ended (t, i))
