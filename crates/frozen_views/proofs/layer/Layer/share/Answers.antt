use Rattle.frozen_views.proofs.Common.{◌∙◌, ◌∷◌, [], Option, ap, map, sym, take, arc_value, option_or, map-append, take_more, PieceValue, piece_in}
use Rattle.frozen_views.proofs.Levels as levels
use Rattle.frozen_views.proofs.layer.Layer.share.Goals as goal

pub loop-piece-preserved : goal.loop-piece-preserved
loop-piece-preserved c = λ n.
    let xs = c.deref-piece-items.result.now in
    let i = c.loop-piece.piece-index in
    let p = c.piece-item.result in
    let put = rw c.in_ok-try_clone.ensures at (c.in_ok-put.ensures n) in
    rw (take_more xs i p c.loop-piece-test.true, ← c.piece-item.is, map-append arc_value (take i xs) (p ∷ []))
    (put
    ∙ (ap (λ (o : Option PieceValue). option_or o (piece_in (arc_value p ∷ []) n)) (c.loop-piece.invariant n)
    ∙ (levels.or_three (piece_in c.args.self.now n) (piece_in (map arc_value (take i xs)) n) (piece_in (arc_value p ∷ []) n)
    ∙ ap (option_or (piece_in c.args.self.now n)) (sym (levels.found_in_both (map arc_value (take i xs)) (arc_value p ∷ []) n)))))
