use Rattle.log_touches.proofs.Common.{◌≡◌, ◌+◌, ◌<◌, ◌∙◌, List, length, take, slice_get, ap, sym, subst, arith, same_Some, LogPiece, acts_in, acts_of_piece, events_of_pieces, LogPiecesValue}
use Rattle.log_touches.proofs.Chains.{first_at, firsts_length}
use Rattle.log_touches.proofs.pieces.StrandPieces.piece.Goals as goal

pub at-requires : goal.at-requires
at-requires c =
    let same = ap (λ (v : LogPiecesValue). v.pieces) c.self.view_is in
    let lt : c.args.place < length c.self.inside.pieces.now = subst (λ (ps : List LogPiece). c.args.place < length ps) (sym same) c.requires in
    let n = ap length c.self.invariant.0 ∙ firsts_length c.self.inside.texts.now 0 c.self.inside.pieces.now in
    omega (arith, n, lt)

pub returns-clause-acts : goal.returns-clause-acts
returns-clause-acts c = λ p at.
    let same = ap (λ (v : LogPiecesValue). v.pieces) c.self.view_is in
    let is : c.piece_at-piece.result ≡ p = same_Some c.piece_at-piece.result p (sym c.piece_at-piece.ensures ∙ (ap (λ (ps : List LogPiece). slice_get ps c.args.place) same ∙ at)) in
    c.piece_lines.ensures ∙ (ap (acts_of_piece c.self.inside.texts.now) is ∙ ap (λ (v : LogPiecesValue). acts_of_piece v.texts p) c.self.view_is)

pub returns-clause-number : goal.returns-clause-number
returns-clause-number c =
    let same = ap (λ (v : LogPiecesValue). v.pieces) c.self.view_is in
    let lt : c.args.place < length c.self.inside.pieces.now = subst (λ (ps : List LogPiece). c.args.place < length ps) (sym same) c.requires in
    let first = first_at c.self.inside.texts.now 0 c.args.place c.self.inside.pieces.now lt in
    let n = length (events_of_pieces c.self.inside.texts.now (take c.args.place c.self.inside.pieces.now)) in
    let is : c.at.result.now ≡ 0 + n = same_Some c.at.result.now (0 + n) (sym c.at.ensures ∙ (ap (λ l. slice_get l c.args.place) c.self.invariant.0 ∙ first)) in
    is ∙ ((let z : 0 + n ≡ n = omega arith in z) ∙ ap (λ (v : LogPiecesValue). length (events_of_pieces v.texts (take c.args.place v.pieces))) c.self.view_is)
