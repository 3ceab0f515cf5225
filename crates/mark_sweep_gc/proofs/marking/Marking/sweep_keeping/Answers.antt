use Rattle.mark_sweep_gc.proofs.Common.{◌≡◌, ◌∙◌, ◌++◌, ◌≤◌, ap, arith, filter, length, map, sym, subst, ℕ, List, Option, Addr, ChunkValue, AreCounted, HaveDistinctNumbers, LeafHeapValue, IsCurrent, IsReserved, IsSettled, chunk_number_at, place_at, stays, swept_chunk}
use Rattle.mark_sweep_gc.proofs.Kept as kept
use Rattle.mark_sweep_gc.proofs.marking.Marking.sweep_keeping.Goals as goal

pub put_chunks-requires-clause-apart : goal.put_chunks-requires-clause-apart
put_chunks-requires-clause-apart c =
    let found : List Addr = c.take_list-left.new.self.found in
    let reserved : Option ℕ = c.number_of-reserved.result in
    let ks : List ChunkValue = c.take_chunks-chunks.result.items in
    let settled : IsSettled ks = subst IsSettled (sym (c.take_chunks-chunks.ensures.chunks ∙ ap (λ (h : LeafHeapValue). h.chunks) c.open-space.ensures.space)) c.open-space.ensures.settled in
    let left : List ChunkValue = map (swept_chunk found) (filter (stays found reserved) ks) in
    let is : c.part-units.new.left.items ≡ map (swept_chunk c.take_list-left.new.self.found) (filter (stays c.take_list-left.new.self.found c.number_of-reserved.result) c.take_chunks-chunks.result.items) =
    c.part-units.ensures.left ∙ ap (λ (xs : List ChunkValue). xs ++ left) c.take_list-left.ensures.empty in
    subst HaveDistinctNumbers (sym is) (kept.now_apart found reserved ks settled)

pub put_chunks-requires-clause-counted : goal.put_chunks-requires-clause-counted
put_chunks-requires-clause-counted c = subst (λ (ks : List ChunkValue). AreCounted ks c.counts_of-counts.result) c.deref-3.ensures.value c.counts_of-counts.ensures

pub put_chunks-requires-clause-current : goal.put_chunks-requires-clause-current
put_chunks-requires-clause-current c =
    let found : List Addr = c.take_list-left.new.self.found in
    let reserved : Option ℕ = c.number_of-reserved.result in
    let ks : List ChunkValue = c.take_chunks-chunks.result.items in
    let settled : IsSettled ks = subst IsSettled (sym (c.take_chunks-chunks.ensures.chunks ∙ ap (λ (h : LeafHeapValue). h.chunks) c.open-space.ensures.space)) c.open-space.ensures.settled in
    let left : List ChunkValue = map (swept_chunk found) (filter (stays found reserved) ks) in
    let is : c.part-units.new.left.items ≡ map (swept_chunk c.take_list-left.new.self.found) (filter (stays c.take_list-left.new.self.found c.number_of-reserved.result) c.take_chunks-chunks.result.items) =
    c.part-units.ensures.left ∙ ap (λ (xs : List ChunkValue). xs ++ left) c.take_list-left.ensures.empty in
    let o : Option ℕ = c.current.result in
    let place = c.place_of-filled.ensures
    ∙ (ap (λ (xs : List ChunkValue). place_at xs c.number_of-current.result) (c.deref.ensures.value ∙ is)
    ∙ ap (place_at left) (c.number_of-current.ensures ∙ ap (λ (xs : List ChunkValue). chunk_number_at xs o) (c.chunks.ensures ∙ sym c.take_chunks-chunks.ensures.chunks))) in
    let was = subst (λ (xs : List ChunkValue). IsCurrent xs o) (sym c.take_chunks-chunks.ensures.chunks) c.current.ensures.small in
    subst (λ (p : Option ℕ). IsCurrent c.part-units.new.left.items p) (sym place)
    (subst (λ (xs : List ChunkValue). IsCurrent xs (place_at left (chunk_number_at ks o))) (sym is) (kept.now_current found reserved ks settled o was))

pub put_chunks-requires-clause-reserved : goal.put_chunks-requires-clause-reserved
put_chunks-requires-clause-reserved c =
    let found : List Addr = c.take_list-left.new.self.found in
    let reserved : Option ℕ = c.number_of-reserved.result in
    let ks : List ChunkValue = c.take_chunks-chunks.result.items in
    let settled : IsSettled ks = subst IsSettled (sym (c.take_chunks-chunks.ensures.chunks ∙ ap (λ (h : LeafHeapValue). h.chunks) c.open-space.ensures.space)) c.open-space.ensures.settled in
    let left : List ChunkValue = map (swept_chunk found) (filter (stays found reserved) ks) in
    let is : c.part-units.new.left.items ≡ map (swept_chunk c.take_list-left.new.self.found) (filter (stays c.take_list-left.new.self.found c.number_of-reserved.result) c.take_chunks-chunks.result.items) =
    c.part-units.ensures.left ∙ ap (λ (xs : List ChunkValue). xs ++ left) c.take_list-left.ensures.empty in
    let o : Option ℕ = c.reserved.result in
    let place = c.place_of-kept.ensures
    ∙ (ap (λ (xs : List ChunkValue). place_at xs c.number_of-reserved.result) (c.deref-2.ensures.value ∙ is)
    ∙ ap (place_at left) (c.number_of-reserved.ensures ∙ ap (λ (xs : List ChunkValue). chunk_number_at xs o) (c.chunks-2.ensures ∙ sym c.take_chunks-chunks.ensures.chunks))) in
    let was = subst (λ (xs : List ChunkValue). IsReserved xs o) (sym c.take_chunks-chunks.ensures.chunks) c.reserved.ensures.empty in
    subst (λ (p : Option ℕ). IsReserved c.part-units.new.left.items p) (sym place)
    (subst (λ (xs : List ChunkValue). IsReserved xs (place_at left (chunk_number_at ks o))) (sym is) (kept.now_reserved found reserved ks settled o was))

pub put_chunks-requires-clause-spare : goal.put_chunks-requires-clause-spare
put_chunks-requires-clause-spare c =
    let found : List Addr = c.take_list-left.new.self.found in
    let reserved : Option ℕ = c.number_of-reserved.result in
    let ks : List ChunkValue = c.take_chunks-chunks.result.items in
    let settled : IsSettled ks = subst IsSettled (sym (c.take_chunks-chunks.ensures.chunks ∙ ap (λ (h : LeafHeapValue). h.chunks) c.open-space.ensures.space)) c.open-space.ensures.settled in
    let left : List ChunkValue = map (swept_chunk found) (filter (stays found reserved) ks) in
    let is : c.part-units.new.left.items ≡ map (swept_chunk c.take_list-left.new.self.found) (filter (stays c.take_list-left.new.self.found c.number_of-reserved.result) c.take_chunks-chunks.result.items) =
    c.part-units.ensures.left ∙ ap (λ (xs : List ChunkValue). xs ++ left) c.take_list-left.ensures.empty in
    let few : length (map (swept_chunk found) (filter (stays found reserved) ks)) ≤ length ks = kept.now_count found reserved ks settled in
    let count = ap (λ (xs : List ChunkValue). length xs) is in
    let taken = ap (λ (xs : List ChunkValue). length xs) c.take_chunks-chunks.ensures.chunks in
    let spare = c.take_chunks-chunks.ensures.spare in
    omega arith

pub close-requires : goal.close-requires
close-requires c =
    let found : List Addr = c.take_list-left.new.self.found in
    let reserved : Option ℕ = c.number_of-reserved.result in
    let ks : List ChunkValue = c.take_chunks-chunks.result.items in
    let settled : IsSettled ks = subst IsSettled (sym (c.take_chunks-chunks.ensures.chunks ∙ ap (λ (h : LeafHeapValue). h.chunks) c.open-space.ensures.space)) c.open-space.ensures.settled in
    let left : List ChunkValue = map (swept_chunk found) (filter (stays found reserved) ks) in
    let is : c.part-units.new.left.items ≡ map (swept_chunk c.take_list-left.new.self.found) (filter (stays c.take_list-left.new.self.found c.number_of-reserved.result) c.take_chunks-chunks.result.items) =
    c.part-units.ensures.left ∙ ap (λ (xs : List ChunkValue). xs ++ left) c.take_list-left.ensures.empty in
    subst IsSettled (sym (ap (λ (h : LeafHeapValue). h.chunks) c.put_chunks.ensures.put ∙ is)) (kept.now_settled found reserved ks settled)
