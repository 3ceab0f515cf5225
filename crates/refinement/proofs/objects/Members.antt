-- The objects of chunks and their names.
use Rattle.refinement.proofs.Common.{◌≡◌, ◌⊎◌, ℕ, Bool, true, false, not, Some, List, [], ◌∷◌, inl, inr, refl, ap, sym, subst, ◌∙◌, flat_map, in_append_left, in_append_right, in_append_cases, in_kept, in_from_kept, in_flat, in_map, map_in, Name, Heap, Ledger, held_in, Located, Rests, Chunk, In, Memory, object_name, objects, objects_of_chunks, small_chunks, large_chunks, ChunksHaveNames, MemoryStands, chunk_names}

pub from_flat : {A B : Type 0} (f : A → List B) (xs : List A) (y : B) → In (flat_map f xs) y → (x : A) × In xs x × In (f x) y
from_flat f [] y i = absurd i
from_flat f (x ∷ xs) y i = elim (in_append_cases (f x) (flat_map f xs) y i) [
  | inl j ↦ (x, inl refl, j)
  | inr j ↦ let r = from_flat f xs y j in (r.0, inr r.1, r.2)
]

-- an object is in one of the chunks
pub in_chunk : (ks : List Chunk) (o : Located) → In (objects_of_chunks ks) o → (k : Chunk) × In ks k × In k.objects o
in_chunk ks o i = from_flat (λ k. k.objects) ks o i

pub in_objects : (ks : List Chunk) (k : Chunk) (o : Located) → In ks k → In k.objects o → In (objects_of_chunks ks) o
in_objects ks k o i j = in_flat (λ k. k.objects) ks k o i j

-- an object is in a chunk of its task
pub lies_in : (v : Memory) (l : Ledger) → MemoryStands v l → (z : ℕ) (q : Located) → Rests l z → In (objects v z) q → v.owner q.at.chunk ≡ Some z
lies_in v l V z q r i =
    let k = in_chunk (v.belongings z).chunks q i in
    ap v.owner ((V.belongings z r).inside k.0 q k.1 k.2) ∙ (V.belongings z r).owned k.0 k.1

-- two tasks without chunks have no object
pub none_in : (v : Memory) (a b : ℕ) → (v.belongings a).chunks ≡ [] → (v.belongings b).chunks ≡ [] → (z : ℕ) (o : Located) → (z ≡ a) ⊎ (z ≡ b) → In (objects v z) o → ⊥
none_in v a b ea eb z o (inl e) i = subst (λ (ks : List Chunk). In (objects_of_chunks ks) o) (ap (λ u. (v.belongings u).chunks) e ∙ ea) i
none_in v a b ea eb z o (inr e) i = subst (λ (ks : List Chunk). In (objects_of_chunks ks) o) (ap (λ u. (v.belongings u).chunks) e ∙ eb) i

module _ (ks : List Chunk) (h : Heap) (N : ChunksHaveNames ks h) where
  small_held : (k : Chunk) (o : Located) → In ks k → In k.objects o → k.large ≡ false → In (held_in h) (object_name o)
  small_held k o i j e =
      let s : In (small_chunks ks) k = in_kept (λ k. not k.large) ks k i (ap not e) in
      let m : In h.chunks (chunk_names k) = subst (λ ns. In ns (chunk_names k)) N.small (in_map chunk_names (small_chunks ks) k s) in
      in_append_left (flat_map (λ ns. ns) h.chunks) h.large (object_name o) (in_flat (λ ns. ns) h.chunks (chunk_names k) (object_name o) m (in_map object_name k.objects o j))

  large_held : (k : Chunk) (o : Located) → In ks k → In k.objects o → k.large ≡ true → In (held_in h) (object_name o)
  large_held k o i j e =
      let s : In (large_chunks ks) k = in_kept (λ k. k.large) ks k i e in
      in_append_right (flat_map (λ ns. ns) h.chunks) h.large (object_name o)
      (subst (λ ns. In ns (object_name o)) N.large (in_map object_name (objects_of_chunks (large_chunks ks)) o (in_objects (large_chunks ks) k o s j)))

  -- each object has a held name
  pub object_held : (o : Located) → In (objects_of_chunks ks) o → In (held_in h) (object_name o)
  object_held o i = let r = in_chunk ks o i in object_held_by_cases r.0 r.1 r.2 r.0.large refl
    where
      object_held_by_cases : (k : Chunk) → In ks k → In k.objects o → (b : Bool) → k.large ≡ b → In (held_in h) (object_name o)
      object_held_by_cases k i j true e = large_held k o i j e
      object_held_by_cases k i j false e = small_held k o i j e

  -- and each held name an object
  pub held_object : (n : Name) → In (held_in h) n → (o : Located) × In (objects_of_chunks ks) o × (object_name o ≡ n)
  held_object n i = elim (in_append_cases (flat_map (λ ns. ns) h.chunks) h.large n i) [
    | inl s ↦
        let f = from_flat (λ ns. ns) h.chunks n s in
        let m = map_in chunk_names (small_chunks ks) f.0 (subst (λ ns. In ns f.0) (sym N.small) f.1) in
        let o = map_in object_name m.0.objects n (subst (λ ns. In ns n) (sym m.2) f.2) in
        (o.0, in_objects ks m.0 o.0 (in_from_kept (λ k. not k.large) ks m.0 m.1).0 o.1, o.2)
    | inr l ↦
        let o = map_in object_name (objects_of_chunks (large_chunks ks)) n (subst (λ ns. In ns n) (sym N.large) l) in
        let k = in_chunk (large_chunks ks) o.0 o.1 in
        (o.0, in_objects ks k.0 o.0 (in_from_kept (λ k. k.large) ks k.0 k.1).0 k.2, o.2)
  ]
