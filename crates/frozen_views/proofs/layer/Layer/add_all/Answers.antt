use Rattle.frozen_views.proofs.Common.{◌≡◌, ◌∙◌, ◌++◌, ◌∷◌, [], ℕ, Option, ap, sym, take, rules, option_or, map-append, take_more, PieceValue, frozen_of, level_of, piece_in}
use Rattle.frozen_views.proofs.Levels as levels
use Rattle.frozen_views.proofs.layer.Layer.add_all.Goals as goal

pub loop-chunk-preserved : goal.loop-chunk-preserved
loop-chunk-preserved c = λ n.
    let ks = c.args.chunks.now in
    let i = c.loop-chunk.chunk-index in
    let k = c.chunk-item.result in
    rw (take_more ks i k c.loop-chunk-test.true, ← c.chunk-item.is, map-append frozen_of (take i ks) (k ∷ []))
    (c.in_ok-add.ensures n
    ∙ (ap (λ (o : Option PieceValue). option_or o (piece_in (level_of (k ∷ [])) n)) (c.loop-chunk.invariant n)
    ∙ (levels.or_three (piece_in c.args.self.now n) (piece_in (level_of (take i ks)) n) (piece_in (level_of (k ∷ [])) n)
    ∙ ap (option_or (piece_in c.args.self.now n)) (sym (levels.found_in_both (level_of (take i ks)) (level_of (k ∷ [])) n)))))
