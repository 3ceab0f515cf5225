-- The heap of a task, by its belongings: each reference into it leads to an object.
use Rattle.heap_marking.proofs.Common.{◌≡◌, ℕ, ◌<◌, true, Option, Some, None, List, is_some, length, nat_lt, refl, ap, sym, subst, ◌∙◌, cond-true, lt-ltb, same_Some, all_from, in_got, in_map, Name, Ledger, Addr, Born, Hole, IsBorn, Moved, HaveDistinctNumbers, cell_of, has_chunk, chunk_position, ChunkValue, HeapIsClosed, HasObjectAt, IsSoundReference, Located, located, Rests, own, In, Memory, objects, objects_of_chunks, LiesWithOwner, MemoryStands, name_at, OffsetsAreSmall, chunk_of, chunks_of, object_seen, seen_object, chunk_in}
use Rattle.core_invariant.specs.below.object_layout.{Mark}
use Rattle.core_invariant.specs.below.refinement.{Chunk}

-- what is held is read
pub held_seen : (ks : List ChunkValue) (a : Addr) → HasObjectAt ks a → (o : Located) × In (objects_of_chunks (chunks_of ks)) o × (o.at ≡ a) × ((cell_of ks a).refs ≡ o.refs)
held_seen ks a h = held_seen_by_cases (cell_of ks a).mark refl h
  where
    held_seen_by_cases : (m : Mark) → (cell_of ks a).mark ≡ m → IsBorn m → (o : Located) × In (objects_of_chunks (chunks_of ks)) o × (o.at ≡ a) × ((cell_of ks a).refs ≡ o.refs)
    held_seen_by_cases (Born b) e o = (located a.chunk a.offset b (cell_of ks a), object_seen ks a b e, refl, refl)
    held_seen_by_cases (Moved to) e o = absurd o
    held_seen_by_cases Hole e o = absurd o

-- what is read is held, with the references that are read
pub seen_held : (ks : List ChunkValue) → HaveDistinctNumbers ks → (o : Located) → In (objects_of_chunks (chunks_of ks)) o → HasObjectAt ks o.at × ((cell_of ks o.at).refs ≡ o.refs)
seen_held ks apart o i = let y = seen_object ks o apart i in (subst IsBorn (sym y.mark) tt, sym (ap (λ (z : Located). z.refs) y.is))

module _ (v : Memory) (l : Ledger) (V : MemoryStands v l) (t : ℕ) (rests : Rests l t) (ks : List ChunkValue) (belongings : (v.belongings t).chunks ≡ chunks_of ks) (apart : HaveDistinctNumbers ks) (near : OffsetsAreSmall ks) where
  -- where a name is read
  pub sound_at : (n : Name) (a : Addr) → LiesWithOwner v l n a → IsSoundReference ks (Some a)
  sound_at n a P inside =
      let there : has_chunk ks a.chunk ≡ true = ap is_some (cond-true (nat_lt (chunk_position ks a.chunk) (length ks)) (Some (chunk_position ks a.chunk)) None (lt-ltb (chunk_position ks a.chunk) (length ks) inside)) in
      let k = chunk_in ks a.chunk there in
      let mine : v.owner a.chunk ≡ Some t = ap v.owner (sym k.2) ∙ (V.belongings t rests).owned (chunk_of k.0) (subst (λ (cs : List Chunk). In cs (chunk_of k.0)) (sym belongings) (in_map chunk_of ks k.0 k.1)) in
      let o : own l n ≡ t = same_Some (own l n) t (sym P.chunk ∙ mine) in
      let lies = P.here (subst (Rests l) (sym o) rests) in
      let here : In (objects v t) lies.0 = subst (λ u. In (objects v u) lies.0) o lies.1 in
      let i : In (objects_of_chunks (chunks_of ks)) lies.0 = subst (λ (cs : List Chunk). In (objects_of_chunks cs) lies.0) belongings here in (
        subst (HasObjectAt ks) lies.2.at (seen_held ks apart lies.0 i).0,
        subst (λ (z : Addr). z.offset < 1024) lies.2.at (near lies.0 i),
      )

  pub closed : HeapIsClosed ks
  closed b held = all_from (IsSoundReference ks) (cell_of ks b).refs one
    where
      one : (r : Option Addr) → In (cell_of ks b).refs r → IsSoundReference ks r
      one None i = tt
      one (Some a) i =
          let o = held_seen ks b held in
          let c = V.contents t o.0 rests (subst (λ (cs : List Chunk). In (objects_of_chunks cs) o.0) (sym belongings) o.1) in
          let j = in_got o.0.refs (Some a) (subst (λ (rs : List (Option Addr)). In rs (Some a)) o.3 i) in
          let n = name_at (LiesWithOwner v l) o.0.refs c.0.refs j.0 a c.2.refs j.1 in
          sound_at n.0 a n.2
