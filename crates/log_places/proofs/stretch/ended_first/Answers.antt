use Rattle.std.proofs.Common.{arith}
use Rattle.log_places.proofs.Ends.{ended_more}
use Rattle.log_places.proofs.stretch.ended_first.Goals as goal

pub returns-then-stretches-count-clause-ended : goal.returns-then-stretches-count-clause-ended
returns-then-stretches-count-clause-ended c = λ k d lt.
    ended_more c.args.stretches.now c.requires c.args.count c.args.location _ (omega arith) c.if-stretches-count.true k d (omega arith)
