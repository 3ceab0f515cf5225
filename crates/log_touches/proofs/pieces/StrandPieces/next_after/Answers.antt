use Rattle.log_touches.proofs.Common.{◌+◌, ◌<◌, ◌∙◌, List, length, drop, ap, sym, subst, same_Some, got_some, LogPiece, LogPiecesValue, next_on}
use Rattle.log_touches.proofs.Linking.{next_there}
use Rattle.log_touches.proofs.pieces.StrandPieces.next_after.Goals as goal

pub returns-clause-there : goal.returns-clause-there
returns-clause-there c =
    let pieces = c.self.inside.pieces.now in
    let same = ap (λ (v : LogPiecesValue). v.pieces) c.self.view_is in
    let lt : c.args.place < length pieces = subst (λ (ps : List LogPiece). c.args.place < length ps) (sym same) c.requires in
    let got = got_some pieces c.args.place lt in
    let next = same_Some c.at.result.now (next_on got.0.strand (c.args.place + 1) (drop (c.args.place + 1) pieces)) (sym c.at.ensures ∙ c.self.invariant.1.nexts c.args.place got.0 got.1) in
    next_there got.0.strand c.args.self.now.pieces c.args.place c.at.result.now c.requires
    (next ∙ ap (λ (ps : List LogPiece). next_on got.0.strand (c.args.place + 1) (drop (c.args.place + 1) ps)) same)
