use Rattle.leaf_collections.proofs.Common.{◌≡◌, ◌∙◌, ◌+◌, ◌++◌, ◌∷◌, [], List, ap, length, rules, sym, subst, take, length_push, take_more, All-cons, All-get_or, All-nil, YieldsList-turn, YieldsList-from_vec, IsSome, ChunkValue, slot_at, IsFresh, apart_before, given_both, given_one}
use Rattle.leaf_collections.proofs.leaf_end.give_all.Goals as goal

pub give-requires : goal.give-requires
give-requires c =
    let ks : List ChunkValue = c.args.chunks.items in
    let k : ChunkValue = c.in-Some.chunk in
    let n = length c.loop-chunk.yielded in
    let t = YieldsList-turn (YieldsList-from_vec c.args.chunks.items (search rules) (search rules)) c.loop-chunk.yielded _ c.loop-chunk.yielded_by _ c.next.new.self c.in-Some.chunk c.in-Some.is c.next.ensures.steps in
    let fresh = subst (λ (xs : List ChunkValue). IsFresh xs k.number) (sym c.loop-chunk.invariant.taken) (subst (λ (x : ChunkValue). IsFresh (take n ks) x.number) (sym t.1) (apart_before ks c.requires.apart n k t.0)) in
    let used = subst (λ (x : ChunkValue). IsSome (slot_at c.args.pool.now x.number)) (sym t.1) (All-get_or (λ (x : ChunkValue). IsSome (slot_at c.args.pool.now x.number)) ks n k t.0 c.requires.in_use) in
    subst (λ o. IsSome o) (sym (c.loop-chunk.invariant.pool.others k.number fresh)) used

pub loop-chunk-preserved : goal.loop-chunk-preserved
loop-chunk-preserved c =
    let ks : List ChunkValue = c.args.chunks.items in
    let k : ChunkValue = c.in-Some.chunk in
    let n = length c.loop-chunk.yielded in
    let t = YieldsList-turn (YieldsList-from_vec c.args.chunks.items (search rules) (search rules)) c.loop-chunk.yielded _ c.loop-chunk.yielded_by _ c.next.new.self c.in-Some.chunk c.in-Some.is c.next.ensures.steps in
    let fresh = subst (λ (xs : List ChunkValue). IsFresh xs k.number) (sym c.loop-chunk.invariant.taken) (subst (λ (x : ChunkValue). IsFresh (take n ks) x.number) (sym t.1) (apart_before ks c.requires.apart n k t.0)) in
    let count : length (c.loop-chunk.yielded ++ k ∷ []) ≡ length c.loop-chunk.yielded + 1 = length_push c.loop-chunk.yielded k in
    record {
      taken =
          ap (λ (xs : List ChunkValue). xs ++ k ∷ []) c.loop-chunk.invariant.taken
          ∙ (ap (λ (x : ChunkValue). take n ks ++ x ∷ []) t.1
          ∙ (sym (take_more ks n k t.0)
          ∙ ap (λ m. take m ks) (sym count)));
      pool = given_both c.args.pool.now c.loop-chunk.pool c.give.new.self c.loop-chunk.yielded (k ∷ []) c.loop-chunk.invariant.pool (given_one c.loop-chunk.pool c.give.new.self k c.give.ensures)
          (All-cons (λ l. IsFresh c.loop-chunk.yielded l.number) k [] fresh (All-nil (λ l. IsFresh c.loop-chunk.yielded l.number)));
    }
