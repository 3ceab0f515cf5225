-- A part that has just begun its collection can be copied.
use Rattle.copied_part_laws.proofs.Common.{◌≡◌, ℕ, ◌+◌, ◌*◌, ◌/◌, ◌≤◌, arith, All, length, refl, ap, sym, subst, ◌∙◌, ChunkValue, small_words, IsFresh, needs_are_counted, Private, take_by, BegunIsCopying}
use Rattle.leaf_collections.specs.below.copying_gc.{small_words as small_laid}

enough_taken : (needed counted n : ℕ) → needed ≡ counted → n ≡ take_by counted → 2 * ((needed + 1023) / 1024) ≤ n + 1
enough_taken needed counted n e q = omega (arith, e, q)

pub begun_is_copying : BegunIsCopying
begun_is_copying w k old new roots to B shared fits fresh =
    let chunks : new.heap.chunks ≡ old.heap.chunks = ap (λ (p : Private). p.heap.chunks) B.part in
    let need : small_laid new.heap.chunks ≡ small_words new.heap.chunks = (needs_are_counted new.heap.chunks (record { tidy = fits.form.tidy; apart = fits.form.shaped.apart })).0 in
    record {
      shared = shared;
      fits = fits;
      fresh = fresh;
      begun = ap (λ (p : Private). p.begun) B.part;
      new = record {
        apart = B.apart;
        fresh = subst (λ ks. All (λ (c : ChunkValue). IsFresh ks c.number) to.chunks.items) (sym chunks) B.fresh;
        new = B.empty;
        enough = enough_taken (small_laid new.heap.chunks) (small_words new.heap.chunks) (length to.chunks.items) need (B.count ∙ ap (λ ks. take_by (small_words ks)) (sym chunks));
      };
      numbers = refl;
    }
