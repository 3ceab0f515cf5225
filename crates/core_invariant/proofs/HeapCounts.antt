-- A heap is as its account says, from what is known of it alone and how its belongings are read.
use Rattle.core_invariant.proofs.Common.{◌≡◌, ℕ, zero, suc, ◌+◌, ◌*◌, ◌/◌, ◌<◌, ◌^◌, ◌==◌, ◌&&◌, ◌++◌, not, arith, Bool, true, false, cond, Option, Some, None, List, [], ◌∷◌, length, map, inl, inr, refl, ap, ap₂, sym, subst, ◌∙◌, ne_eqb, cond-true, false≢true, Name, Heap, Born, Cell, Hole, Mark, Moved, size_of, chunk_at, ChunkValue, Located, located_by, objects_from, chunk_there, LeafHeapValue, IsReserved, room_of, reserved_chunks, reserved_units, ChunksHaveNames, large_chunks, chunk_names, small_chunks, Chunk, In, object_name, objects_of_chunks, HasReservedUnits, HeapMatchesAccount, large_names, named_by, names_in, small_lists, name_of, is_empty, none_some, chunk_of, chunks_of, HeapForm}

-- ---- NAMES

names_by : (number at : ℕ) (c : Cell) (m : Mark) (os : List Located) (ns : List Name) → map object_name os ≡ ns → map object_name (located_by number at c m os) ≡ named_by m ns
names_by number at c (Born b) os ns e = ap (λ xs. name_of b ∷ xs) e
names_by number at c (Moved to) os ns e = e
names_by number at c Hole os ns e = e

pub names_are : (cs : List Cell) (number base : ℕ) → map object_name (objects_from number base cs) ≡ names_in cs
names_are [] number base = refl
names_are (c ∷ cs) number base = names_by number base c c.mark (objects_from number (base + size_of c) cs) (names_in cs) (names_are cs number (base + size_of c))

pub small_names : (ks : List ChunkValue) → map chunk_names (small_chunks (chunks_of ks)) ≡ small_lists ks
small_names [] = refl
small_names (k ∷ ks) = small_names_by_cases (k.size == 1024) (small_names ks)
  where
    small_names_by_cases : (b : Bool) → map chunk_names (small_chunks (chunks_of ks)) ≡ small_lists ks → map chunk_names (cond (not (not b)) (chunk_of k ∷ small_chunks (chunks_of ks)) (small_chunks (chunks_of ks))) ≡ cond b (names_in k.cells ∷ small_lists ks) (small_lists ks)
    small_names_by_cases true e = ap₂ (λ x xs. x ∷ xs) (names_are k.cells k.number 0) e
    small_names_by_cases false e = e

names_of_both : (os qs : List Located) (ns ms : List Name) → map object_name os ≡ ns → map object_name qs ≡ ms → map object_name (os ++ qs) ≡ ns ++ ms
names_of_both [] qs ns ms a b = b ∙ ap (λ xs. xs ++ ms) a
names_of_both (o ∷ os) qs ns ms a b = ap (λ xs. object_name o ∷ xs) (names_of_both os qs (map object_name os) ms refl b) ∙ ap (λ xs. xs ++ ms) a

pub large_are : (ks : List ChunkValue) → map object_name (objects_of_chunks (large_chunks (chunks_of ks))) ≡ large_names ks
large_are [] = refl
large_are (k ∷ ks) = large_are_by_cases (k.size == 1024) (large_are ks)
  where
    large_are_by_cases : (b : Bool) → map object_name (objects_of_chunks (large_chunks (chunks_of ks))) ≡ large_names ks → map object_name (objects_of_chunks (cond (not b) (chunk_of k ∷ large_chunks (chunks_of ks)) (large_chunks (chunks_of ks)))) ≡ cond b (large_names ks) (names_in k.cells ++ large_names ks)
    large_are_by_cases true e = e
    large_are_by_cases false e = names_of_both (objects_from k.number 0 k.cells) (objects_of_chunks (large_chunks (chunks_of ks))) (names_in k.cells) (large_names ks) (names_are k.cells k.number 0) e

-- ---- THE RESERVED CHUNK

abbrev pub is_spare : Chunk → Bool
is_spare k = k.large && is_empty k.objects

-- a reserved chunk is among the reserved ones
units_among : (ks : List ChunkValue) (i : ℕ) → i < length ks → is_spare (chunk_of (chunk_at ks i)) ≡ true → In (map (λ (c : Chunk). c.units) (reserved_chunks (chunks_of ks))) (chunk_of (chunk_at ks i)).units
units_among [] i lt h = absurd (omega (arith, lt))
units_among (k ∷ ks) zero lt h = subst (λ (cs : List Chunk). In (map (λ (c : Chunk). c.units) cs) (chunk_of k).units) (sym (cond-true (is_spare (chunk_of k)) (chunk_of k ∷ reserved_chunks (chunks_of ks)) (reserved_chunks (chunks_of ks)) h)) (inl refl)
units_among (k ∷ ks) (suc i) lt h = units_among_by_cases (is_spare (chunk_of k)) (units_among ks i (omega (arith, lt)) h)
  where
    u : ℕ
    u = (chunk_of (chunk_at ks i)).units

    units_among_by_cases : (b : Bool) → In (map (λ (c : Chunk). c.units) (reserved_chunks (chunks_of ks))) u → In (map (λ (c : Chunk). c.units) (cond b (chunk_of k ∷ reserved_chunks (chunks_of ks)) (reserved_chunks (chunks_of ks)))) u
    units_among_by_cases true j = inr j
    units_among_by_cases false j = j

-- and each of those is in the heap
spare_among : (ks : List ChunkValue) (n : ℕ) (ns : List ℕ) → map (λ (c : Chunk). c.units) (reserved_chunks (chunks_of ks)) ≡ n ∷ ns → (i : ℕ) × (i < length ks) × (is_spare (chunk_of (chunk_at ks i)) ≡ true)
spare_among [] n ns e = absurd cc
spare_among (k ∷ ks) n ns e = spare_among_by_cases (is_spare (chunk_of k)) refl e (spare_among ks n ns)
  where
    spare_among_by_cases : (b : Bool) → is_spare (chunk_of k) ≡ b → map (λ (c : Chunk). c.units) (cond b (chunk_of k ∷ reserved_chunks (chunks_of ks)) (reserved_chunks (chunks_of ks))) ≡ n ∷ ns
        → (map (λ (c : Chunk). c.units) (reserved_chunks (chunks_of ks)) ≡ n ∷ ns → (i : ℕ) × (i < length ks) × (is_spare (chunk_of (chunk_at ks i)) ≡ true)) → (i : ℕ) × (i < length (k ∷ ks)) × (is_spare (chunk_of (chunk_at (k ∷ ks) i)) ≡ true)
    spare_among_by_cases true q h go = (0, omega arith, q)
    spare_among_by_cases false q h go = let x = go h in (suc x.0, omega (arith, x.1), x.2)

in_units : (n u : ℕ) → In (reserved_units n) u → u ≡ n
in_units zero u i = absurd i
in_units (suc n) u (inl e) = sym e
in_units (suc n) u (inr i) = absurd i

pub spare_tells : (k : ChunkValue) → is_spare (chunk_of k) ≡ true → ((k.size ≡ 1024 → ⊥) × ((chunk_of k).objects ≡ []))
spare_tells k h = spare_tells_by_cases (k.size == 1024) refl (chunk_of k).objects refl h
  where
    spare_tells_by_cases : (b : Bool) → (k.size == 1024) ≡ b → (os : List Located) → (chunk_of k).objects ≡ os → (not b && is_empty os) ≡ true → ((k.size ≡ 1024 → ⊥) × ((chunk_of k).objects ≡ []))
    spare_tells_by_cases true q os e g = absurd (false≢true g)
    spare_tells_by_cases false q [] e g = ((λ s. false≢true (sym q ∙ ap (λ n. n == 1024) s)), e)
    spare_tells_by_cases false q (o ∷ os) e g = absurd (false≢true g)

module _ (h : LeafHeapValue) (F : HeapForm h) (units : ℕ) (laid : map (λ (c : Chunk). c.units) (reserved_chunks (chunks_of h.chunks)) ≡ reserved_units units) where
  none_reserved : h.reserved ≡ None → units ≡ 0
  none_reserved e = none_reserved_by_cases units refl
    where
      none_reserved_by_cases : (n : ℕ) → units ≡ n → n ≡ 0
      none_reserved_by_cases zero q = refl
      none_reserved_by_cases (suc n) q =
          let x = spare_among h.chunks (suc n) [] (laid ∙ ap reserved_units q) in
          let y = spare_tells (chunk_at h.chunks x.0) x.2 in
          let z : h.reserved ≡ Some x.0 = F.spare x.0 x.1 y.0 y.1 in
          absurd (none_some (sym e ∙ z))

  some_reserved : (i : ℕ) → h.reserved ≡ Some i → (chunk_at h.chunks i).size ≡ 1024 * units
  some_reserved i e =
      let R : IsReserved h.chunks (Some i) = subst (IsReserved h.chunks) e F.shaped.reserved in
      let k : ChunkValue = chunk_at h.chunks i in
      let spare : is_spare (chunk_of k) ≡ true = ap₂ (λ a (os : List Located). not a && is_empty os) (ne_eqb k.size 1024 (λ q. omega (arith, q, R.1.0))) (ap (objects_from k.number 0) R.1.1) in
      let u : k.size / 1024 ≡ units = in_units units (k.size / 1024) (subst (λ ns. In ns (k.size / 1024)) laid (units_among h.chunks i R.0 spare)) in
      F.whole k (chunk_there h.chunks i R.0) ∙ ap (λ n. 1024 * n) u

  are_reserved : (o : Option ℕ) → h.reserved ≡ o → HasReservedUnits h.chunks o units
  are_reserved None e = none_reserved e
  are_reserved (Some i) e = some_reserved i e

-- THE HEAP IS COUNTED
pub counted_from : (h : LeafHeapValue) (l : Heap) → HeapForm h → ChunksHaveNames (chunks_of h.chunks) l → room_of h ≡ l.room → h.since ≡ l.since → map (λ (c : Chunk). c.units) (reserved_chunks (chunks_of h.chunks)) ≡ reserved_units l.reserved → HeapMatchesAccount h l
counted_from h l F N room since laid = record {
  chunks = sym (small_names h.chunks) ∙ N.small;
  large = sym (large_are h.chunks) ∙ N.large;
  last = F.last;
  last_large = F.last_large;
  room = room;
  since = let a : h.since < 2 ^ 64 = F.since in omega (arith, a, since);
  reserved = are_reserved h F l.reserved laid h.reserved refl;
}
