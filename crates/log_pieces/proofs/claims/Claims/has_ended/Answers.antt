use Rattle.std.proofs.Common.{◌∙◌}
use Rattle.log_pieces.proofs.claims.Claims.has_ended.Goals as goal

pub returns : goal.returns
returns c = λ events k. c.contains.ensures ∙ k.ended c.args.strand.task c.args.strand.index
