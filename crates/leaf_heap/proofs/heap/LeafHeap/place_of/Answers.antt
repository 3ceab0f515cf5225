use Rattle.leaf_heap.proofs.Common.{◌≡◌, ◌<◌, ℕ, List, length, get_or, ap, sym, ◌∙◌, subst, arith, Some, get_or_read, ChunkValue, chunk_at, no_chunk, place_in, chunk_position}
use Rattle.object_layout.proofs.ChunkLaws as chunks
use Rattle.leaf_heap.proofs.PlacedLaws as laws
use Rattle.leaf_heap.proofs.heap.LeafHeap.place_of.Goals as goal

-- the chunk at a position is found by its number, if numbers are distinct
at_place : (ks : List ChunkValue) (i n : ℕ) → i < length ks → chunk_position ks (chunk_at ks i).number ≡ i → (chunk_at ks i).number ≡ n → Some i ≡ place_in ks n
at_place ks i n l own number =
    let at : chunk_position ks n ≡ i = subst (λ m. chunk_position ks m ≡ i) number own in
    sym (chunks.place_there ks n (omega arith) ∙ ap Some at)

pub returns-then-number : goal.returns-then-number
returns-then-number c =
    let ks : List ChunkValue = c.self.inside.space.chunks in
    let k : ChunkValue = c.index-chunks-filled.result in
    let l : c.in-Some.filled < length ks = c.in-Some.ensures.small.0 in
    let is : k ≡ get_or ks c.in-Some.filled k = c.index-chunks-filled.is ∙ ap (λ (xs : List ChunkValue). get_or xs c.in-Some.filled k) c.chunks.ensures in
    let read : k ≡ get_or ks c.in-Some.filled no_chunk = get_or_read ks c.in-Some.filled k l is no_chunk in
    let same : c.number.result ≡ c.args.number = omega arith in
    let number : (chunk_at ks c.in-Some.filled).number ≡ c.args.number = sym (ap (λ (x : ChunkValue). x.number) read) ∙ (sym c.number.ensures ∙ same) in
    rw (← c.self.view_is) (at_place ks c.in-Some.filled c.args.number l (laws.place_of-own ks c.self.invariant.apart c.in-Some.filled l) number)
