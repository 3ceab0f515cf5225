use Rattle.frozen_views.proofs.Common.{◌∷◌, [], take, map-append, take_more, ChunkValue}
use Rattle.frozen_views.proofs.PieceLists as lists
use Rattle.frozen_views.proofs.pieces.Pieces.note_changes.Goals as goal

pub loop-chunk-preserved : goal.loop-chunk-preserved
loop-chunk-preserved c =
    let ks = c.args.chunks.now in
    let i = c.loop-chunk.chunk-index in
    let k = c.chunk-item.result in
    rw (take_more ks i k c.loop-chunk-test.true, ← c.chunk-item.is, map-append (λ (x : ChunkValue). x.number) (take i ks) (k ∷ []))
    (lists.changes_both _ _ _ _ _ c.loop-chunk.invariant (rw c.number.ensures at c.note_change.ensures.noted))
