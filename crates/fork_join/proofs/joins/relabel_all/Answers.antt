use Rattle.fork_join.proofs.Common.{◌≡◌, List, [], ◌∷◌, ◌++◌, ap, subst, sym, take, get_or, IsSome, take_more, ChunkValue, Relabels, slot_at, AreRelabelled}
use Rattle.fork_join.proofs.Relabelling.{relabelled_both, relabelled_one, used_still}
use Rattle.fork_join.proofs.joins.relabel_all.Goals as goal

pub loop-chunk-preserved : goal.loop-chunk-preserved
loop-chunk-preserved c =
    let k = c.chunk-item.result in
    let i = c.loop-chunk.chunk-index in
    let ks = c.args.chunks.now in
    let was : IsSome (slot_at c.args.pool.now k.number) = subst (λ (x : ChunkValue). IsSome (slot_at c.args.pool.now x.number)) (sym c.chunk-item.is) (c.requires i k c.loop-chunk-test.true) in
    let used = used_still c.args.pool.now c.loop-chunk.pool (take i ks) c.args.owner c.loop-chunk.invariant k.number was in
    let step : Relabels c.loop-chunk.pool c.relabel.new.self k.number c.args.owner = subst (λ n. Relabels c.loop-chunk.pool c.relabel.new.self n c.args.owner) c.number.ensures c.relabel.ensures in
    let one = relabelled_one c.loop-chunk.pool c.relabel.new.self k c.args.owner used step in
    let both = relabelled_both c.args.pool.now c.loop-chunk.pool c.relabel.new.self (take i ks) (k ∷ []) c.args.owner c.loop-chunk.invariant one in
    let here : take i ks ++ k ∷ [] ≡ take i ks ++ get_or ks i k ∷ [] = ap (λ (x : ChunkValue). take i ks ++ x ∷ []) c.chunk-item.is in
    subst (λ (xs : List ChunkValue). AreRelabelled c.args.pool.now c.relabel.new.self xs c.args.owner) (sym (take_more ks i k c.loop-chunk-test.true))
    (subst (λ (xs : List ChunkValue). AreRelabelled c.args.pool.now c.relabel.new.self xs c.args.owner) here both)
