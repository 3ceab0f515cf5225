-- Belongings whose objects are changed, except for their names and addresses.
use Rattle.refinement.proofs.Common.{◌≡◌, ℕ, Bool, true, false, not, cond, Some, List, [], ◌∷◌, ◌++◌, map, length, slice_get, refl, ap, ap₂, sym, subst, ◌∙◌, length-map, map-append, in_map, map_in, Addr, Located, Name, row_of, is_joined, Heap, Ledger, heap_of, Chunk, Belongings, Memory, In, object_name, objects_of_chunks, Lies, mapped_chunk, mapped_belongings, words, AreLaidOut, small_chunks, large_chunks, ChunksHaveNames, BelongingsStand, chunk_names}
use Rattle.refinement.proofs.objects.LaidOut.{laid_mapped}

module _ (one : Located → Located) (same_name : (o : Located) → object_name (one o) ≡ object_name o) (same_at : (o : Located) → (one o).at ≡ o.at) where
  abbrev chunk : Chunk → Chunk
  chunk k = mapped_chunk one k

  pub objects_mapped : (ks : List Chunk) → objects_of_chunks (map chunk ks) ≡ map one (objects_of_chunks ks)
  objects_mapped [] = refl
  objects_mapped (k ∷ ks) = ap (λ zs. map one k.objects ++ zs) (objects_mapped ks) ∙ sym (map-append one k.objects (objects_of_chunks ks))

  names_same : (os : List Located) → map object_name (map one os) ≡ map object_name os
  names_same [] = refl
  names_same (o ∷ os) = ap₂ (λ n ns. n ∷ ns) (same_name o) (names_same os)

  small_same : (ks : List Chunk) → map chunk_names (small_chunks (map chunk ks)) ≡ map chunk_names (small_chunks ks)
  small_same [] = refl
  small_same (k ∷ ks) = small_same_by_cases (small_same ks) k.large
    where
      small_same_by_cases : map chunk_names (small_chunks (map chunk ks)) ≡ map chunk_names (small_chunks ks) → (b : Bool) → map chunk_names (cond (not b) (chunk k ∷ small_chunks (map chunk ks)) (small_chunks (map chunk ks))) ≡ map chunk_names (cond (not b) (k ∷ small_chunks ks) (small_chunks ks))
      small_same_by_cases more true = more
      small_same_by_cases more false = ap₂ (λ a b. a ∷ b) (names_same k.objects) more

  large_same : (ks : List Chunk) → large_chunks (map chunk ks) ≡ map chunk (large_chunks ks)
  large_same [] = refl
  large_same (k ∷ ks) = large_same_by_cases (large_same ks) k.large
    where
      large_same_by_cases : large_chunks (map chunk ks) ≡ map chunk (large_chunks ks) → (b : Bool) → cond b (chunk k ∷ large_chunks (map chunk ks)) (large_chunks (map chunk ks)) ≡ map chunk (cond b (k ∷ large_chunks ks) (large_chunks ks))
      large_same_by_cases more true = ap (λ zs. chunk k ∷ zs) more
      large_same_by_cases more false = more

  pub names_mapped : (ks : List Chunk) (h : Heap) → ChunksHaveNames ks h → ChunksHaveNames (map chunk ks) h
  names_mapped ks h N = record {
    small = small_same ks ∙ N.small;
    large = ap (λ zs. map object_name (objects_of_chunks zs)) (large_same ks) ∙ (ap (λ zs. map object_name zs) (objects_mapped (large_chunks ks)) ∙ (names_same (objects_of_chunks (large_chunks ks)) ∙ N.large));
  }

  pub count_mapped : (ks : List Chunk) → length (objects_of_chunks (map chunk ks)) ≡ length (objects_of_chunks ks)
  count_mapped ks = ap (λ (os : List Located). length os) (objects_mapped ks) ∙ length-map (objects_of_chunks ks) one

  pub from_mapped : (ks : List Chunk) (o : Located) → In (objects_of_chunks (map chunk ks)) o → (q : Located) × In (objects_of_chunks ks) q × (one q ≡ o)
  from_mapped ks o i = map_in one (objects_of_chunks ks) o (subst (λ zs. In zs o) (objects_mapped ks) i)

  pub to_mapped : (ks : List Chunk) (o : Located) → In (objects_of_chunks ks) o → In (objects_of_chunks (map chunk ks)) (one o)
  to_mapped ks o i = subst (λ zs. In zs (one o)) (sym (objects_mapped ks)) (in_map one (objects_of_chunks ks) o i)

  pub lies_mapped : (ks : List Chunk) (n : Name) (a : Addr) → Lies ks n a → Lies (map chunk ks) n a
  lies_mapped ks n a q = (one q.0, to_mapped ks q.0 q.1, record { name = same_name q.0 ∙ q.2.name; at = same_at q.0 ∙ q.2.at })

  pub belongings_mapped_by : (v v' : Memory) (l l' : Ledger) (t : ℕ) → (v'.belongings t).chunks ≡ map chunk (v.belongings t).chunks → (v'.belongings t).room ≡ (v.belongings t).room → (v'.belongings t).since ≡ (v.belongings t).since → (v'.belongings t).count ≡ (v.belongings t).count
      → ((k : ℕ) → v.owner k ≡ Some t → v'.owner k ≡ Some t) → heap_of l' t ≡ heap_of l t → length (row_of (slice_get l'.machine.store t)) ≡ length (row_of (slice_get l.machine.store t))
      → is_joined (slice_get l'.machine.tasks t) ≡ is_joined (slice_get l.machine.tasks t) → ((o : Located) → words (one o) ≡ words o) → BelongingsStand v l t → BelongingsStand v' l' t
  belongings_mapped_by v v' l l' t ec eo es en ow el er ej same_words H = record {
    names = subst (λ ks. ChunksHaveNames ks (heap_of l' t)) (sym ec) (subst (ChunksHaveNames (map chunk (v.belongings t).chunks)) (sym el) (names_mapped (v.belongings t).chunks (heap_of l t) H.names));
    room = eo ∙ (H.room ∙ sym (ap (λ (h : Heap). h.room) el));
    since = es ∙ (H.since ∙ sym (ap (λ (h : Heap). h.since) el));
    count = λ live. en ∙ (H.count (sym ej ∙ live) ∙ sym er);
    owned = λ k i. let q = map_in chunk (v.belongings t).chunks k (subst (λ ks. In ks k) ec i) in
        ow k.number (ap (λ (c : Chunk). v.owner c.number) (sym q.2) ∙ H.owned q.0 q.1);
    inside = λ k o i j.
        let q = map_in chunk (v.belongings t).chunks k (subst (λ ks. In ks k) ec i) in
        let p = map_in one q.0.objects o (subst (λ (c : Chunk). In c.objects o) (sym q.2) j) in
        ap (λ (c : Located). c.at.chunk) (sym p.2) ∙ (ap (λ (c : Addr). c.chunk) (same_at p.0) ∙ H.inside q.0 p.0 q.1 p.1 ∙ ap (λ (c : Chunk). c.number) q.2);
    once = λ o p i j e.
        let a = from_mapped (v.belongings t).chunks o (subst (λ ks. In (objects_of_chunks ks) o) ec i) in
        let b = from_mapped (v.belongings t).chunks p (subst (λ ks. In (objects_of_chunks ks) p) ec j) in
        let same : a.0 ≡ b.0 = H.once a.0 b.0 a.1 b.1 (sym (same_at a.0) ∙ (ap (λ (c : Located). c.at) a.2 ∙ (e ∙ (ap (λ (c : Located). c.at) (sym b.2) ∙ same_at b.0)))) in
        sym a.2 ∙ (ap one same ∙ b.2);
    named = λ o p i j e.
        let a = from_mapped (v.belongings t).chunks o (subst (λ ks. In (objects_of_chunks ks) o) ec i) in
        let b = from_mapped (v.belongings t).chunks p (subst (λ ks. In (objects_of_chunks ks) p) ec j) in
        let same : a.0 ≡ b.0 = H.named a.0 b.0 a.1 b.1 (sym (same_name a.0) ∙ (ap object_name a.2 ∙ (e ∙ (ap object_name (sym b.2) ∙ same_name b.0)))) in
        sym a.2 ∙ (ap one same ∙ b.2);
    laid = subst (λ ks. AreLaidOut ks (heap_of l' t).reserved) (sym ec) (subst (λ (h : Heap). AreLaidOut (map chunk (v.belongings t).chunks) h.reserved) (sym el) (laid_mapped one same_at same_words (v.belongings t).chunks (heap_of l t).reserved H.laid));
  }

  pub belongings_mapped : (v v' : Memory) (l l' : Ledger) (t : ℕ) → v'.belongings t ≡ mapped_belongings one (v.belongings t) → ((k : ℕ) → v.owner k ≡ Some t → v'.owner k ≡ Some t) → heap_of l' t ≡ heap_of l t → slice_get l'.machine.store t ≡ slice_get l.machine.store t
      → is_joined (slice_get l'.machine.tasks t) ≡ is_joined (slice_get l.machine.tasks t) → ((o : Located) → words (one o) ≡ words o) → BelongingsStand v l t → BelongingsStand v' l' t
  belongings_mapped v v' l l' t eh ow el er ej same_words H =
      belongings_mapped_by v v' l l' t (ap (λ (h : Belongings). h.chunks) eh) (ap (λ (h : Belongings). h.room) eh) (ap (λ (h : Belongings). h.since) eh) (ap (λ (h : Belongings). h.count) eh) ow el (ap (λ r. length (row_of r)) er) ej same_words H
