use Rattle.std.proofs.Common.{◌≡◌, ◌∙◌, ◌≤◌, ℕ, List, ap, arith, subst}
use Rattle.memory_scenes.specs.below.object_layout.{ChunkValue}
use Rattle.memory_scenes.specs.below.leaf_heap.{IsFresh}
use Rattle.copying_gc.specs.Laid.{small_words}
use Rattle.collection_tests.proofs.collecting.is_ready.Goals as goal

pub returns : goal.returns
returns c = λ h.
    let q : c.in-Some.small ≡ small_words c.args.heap.now.chunks = c.in-Some.ensures ∙ ap small_words c.chunks.ensures.chunks in
    let few : c.in-Some.small ≤ 1024 = let t = c.if-small.false in omega arith in
    record {
      closed = c.is_fit_heap.ensures c.if-not-is_fit_heap.false;
      outside = c.outside_is_sound.ensures c.if-not-outside_is_sound.false;
      fresh = subst (λ (ks : List ChunkValue). IsFresh ks c.args.number) c.chunks-2.ensures.chunks (c.is_fresh.ensures h);
      few = subst (λ (n : ℕ). n ≤ 1024) q few;
    }
