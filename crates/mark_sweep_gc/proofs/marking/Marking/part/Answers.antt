use Rattle.mark_sweep_gc.proofs.Common.{◌≡◌, ◌∙◌, ◌+◌, ◌++◌, ◌∷◌, [], List, ap, arith, filter, length, map, rules, sym, subst, take, append_assoc, length_push, take_more, All-get_or, YieldsList-turn, YieldsList-from_vec, IsSome, ChunkValue, IsFresh, counted32, apart_before, slot_at, goes, stays, swept_chunk}
use Rattle.mark_sweep_gc.proofs.Giving as giving
use Rattle.mark_sweep_gc.proofs.marking.Marking.part.Goals as goal

pub keep_or_give-requires-clause-in_use : goal.keep_or_give-requires-clause-in_use
keep_or_give-requires-clause-in_use c =
    let ks : List ChunkValue = c.args.chunks.items in
    let k : ChunkValue = c.in-Some.chunk in
    let t = YieldsList-turn (YieldsList-from_vec c.args.chunks.items (search rules) (search rules)) c.loop-chunk.yielded _ c.loop-chunk.yielded_by _ c.next.new.self c.in-Some.chunk c.in-Some.is c.next.ensures.steps in
    let fresh = subst (λ (xs : List ChunkValue). IsFresh xs k.number) (sym c.loop-chunk.invariant.taken) (subst (λ (x : ChunkValue). IsFresh (take (length c.loop-chunk.yielded) ks) x.number) (sym t.1) (apart_before ks c.requires.apart (length c.loop-chunk.yielded) k t.0)) in
    let used = subst (λ (x : ChunkValue). IsSome (slot_at c.args.pool.now x.number)) (sym t.1) (All-get_or (λ (x : ChunkValue). IsSome (slot_at c.args.pool.now x.number)) ks (length c.loop-chunk.yielded) k t.0 c.requires.in_use) in
    giving.still_in_use c.args.pool.now c.loop-chunk.pool (goes c.args.self.now.found c.args.reserved) c.loop-chunk.yielded k fresh c.loop-chunk.invariant.pool used

pub loop-chunk-preserved : goal.loop-chunk-preserved
loop-chunk-preserved c =
    let ks : List ChunkValue = c.args.chunks.items in
    let k : ChunkValue = c.in-Some.chunk in
    let n = length c.loop-chunk.yielded in
    let t = YieldsList-turn (YieldsList-from_vec c.args.chunks.items (search rules) (search rules)) c.loop-chunk.yielded _ c.loop-chunk.yielded_by _ c.next.new.self c.in-Some.chunk c.in-Some.is c.next.ensures.steps in
    let fresh = subst (λ (xs : List ChunkValue). IsFresh xs k.number) (sym c.loop-chunk.invariant.taken) (subst (λ (x : ChunkValue). IsFresh (take n ks) x.number) (sym t.1) (apart_before ks c.requires.apart n k t.0)) in
    let count : length (c.loop-chunk.yielded ++ k ∷ []) ≡ length c.loop-chunk.yielded + 1 = length_push c.loop-chunk.yielded k in
    let gives = goes c.args.self.now.found c.args.reserved in
    let keeps = stays c.args.self.now.found c.args.reserved in
    let sweeps = swept_chunk c.args.self.now.found in
    let more = c.keep_or_give.ensures.count in
    let was = c.loop-chunk.invariant.count in
    record {
      taken =
          ap (λ (xs : List ChunkValue). xs ++ k ∷ []) c.loop-chunk.invariant.taken
          ∙ (ap (λ (x : ChunkValue). take n ks ++ x ∷ []) t.1
          ∙ (sym (take_more ks n k t.0)
          ∙ ap (λ m. take m ks) (sym count)));
      left = c.keep_or_give.ensures.left
          ∙ (ap (λ (xs : List ChunkValue). xs ++ map sweeps (filter keeps (k ∷ []))) c.loop-chunk.invariant.left
          ∙ (append_assoc c.args.left.now.items (map sweeps (filter keeps c.loop-chunk.yielded)) (map sweeps (filter keeps (k ∷ [])))
          ∙ ap (λ (xs : List ChunkValue). c.args.left.now.items ++ xs) (sym (giving.mapped_more keeps c.loop-chunk.yielded k sweeps))));
      pool = giving.given_more gives c.loop-chunk.yielded k fresh c.args.pool.now c.loop-chunk.pool c.keep_or_give.new.pool c.loop-chunk.invariant.pool c.keep_or_give.ensures.pool;
      units = giving.counted_more gives c.loop-chunk.yielded k c.loop-chunk.units c.saturating_add-units.result c.loop-chunk.invariant.units
          (c.saturating_add-units.ensures ∙ ap (λ m. counted32 (c.loop-chunk.units + m)) c.keep_or_give.ensures.units);
      count = omega arith;
      capacity = c.keep_or_give.ensures.capacity ∙ c.loop-chunk.invariant.capacity;
    }
