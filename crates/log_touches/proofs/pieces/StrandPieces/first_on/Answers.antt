use Rattle.log_touches.proofs.Common.{◌∙◌, ap, LogPiecesValue, next_on}
use Rattle.log_touches.proofs.Linking.{first_there}
use Rattle.log_touches.proofs.pieces.StrandPieces.first_on.Goals as goal

pub returns-clause-place : goal.returns-clause-place
returns-clause-place c =
    c.copied.ensures ∙ (c.get.ensures.value ∙ (c.self.invariant.1.heads c.args.strand.task c.args.strand.index ∙ ap (λ (v : LogPiecesValue). next_on c.args.strand 0 v.pieces) c.self.view_is))

pub returns-clause-there : goal.returns-clause-there
returns-clause-there c = first_there c.args.strand c.args.self.now.pieces c.copied.result (returns-clause-place c)
