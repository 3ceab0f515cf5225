-- What is known of a heap before its collection ends; and that its names are distinct.
use Rattle.copied_part_laws.proofs.Common.{◌≡◌, ℕ, ◌+◌, ◌≤◌, ◌==◌, arith, Bool, true, false, cond, List, [], ◌∷◌, ◌++◌, inl, inr, refl, ap, sym, ◌∙◌, flat_map, eqb-true, in_append_cases, in_append_left, in_append_right, in_map, Name, MachineState, Heap, words_at, Born, Cell, Hole, Mark, Moved, size_of, ChunkValue, Located, located, objects_from, behind, first, HaveDistinctNumbers, LeafHeapValue, Survivor, olds, In, object_name, objects_of_chunks, AreLaidOut, words, ChunksHaveNames, in_objects, named_by, names_in, small_lists, name_of, chunk_of, chunks_of, HeapForm, fresh_off, NamedOnce}
use Rattle.copied_part_laws.proofs.ObjectsApart.{span}

-- a heap with these survivors, and its account in this state of the machine
pub record Old (h : LeafHeapValue) (ss : List Survivor) (m : MachineState) (a : Heap) : Type 0 where
  pub form : HeapForm h
  pub names : ChunksHaveNames (chunks_of h.chunks) a
  pub named : (o q : Located) → In (objects_of_chunks (chunks_of h.chunks)) o → In (objects_of_chunks (chunks_of h.chunks)) q → object_name o ≡ object_name q → o ≡ q
  pub words : (o : Located) → In (objects_of_chunks (chunks_of h.chunks)) o → words_at m (object_name o) ≡ words o
  pub laid : AreLaidOut (chunks_of h.chunks) a.reserved
  pub lives : (o : Located) → In (objects_of_chunks (chunks_of h.chunks)) o → In (olds ss) o.at → In a.survivors (object_name o)
  pub dies : (o : Located) → In (objects_of_chunks (chunks_of h.chunks)) o → In a.survivors (object_name o) → In (olds ss) o.at

-- ---- NAMES THAT ARE READ

-- a name of cells is that of an object of theirs
pub name_seen : (cs : List Cell) (number base : ℕ) (n : Name) → In (names_in cs) n → (o : Located) × In (objects_from number base cs) o × (object_name o ≡ n)
name_seen [] number base n i = absurd i
name_seen (c ∷ cs) number base n i = name_seen_by_cases c.mark i refl (name_seen cs number (base + size_of c) n)
  where
    name_seen_by_cases : (m : Mark) → In (named_by m (names_in cs)) n → c.mark ≡ m → (In (names_in cs) n → (o : Located) × In (objects_from number (base + size_of c) cs) o × (object_name o ≡ n)) → (o : Located) × In (objects_from number base (c ∷ cs)) o × (object_name o ≡ n)
    name_seen_by_cases (Born b) (inl e) q go = (located number base b c, first number base c c.mark b (objects_from number (base + size_of c) cs) q, e)
    name_seen_by_cases (Born b) (inr j) q go = let r = go j in (r.0, behind number base c c.mark (objects_from number (base + size_of c) cs) r.0 r.1, r.2)
    name_seen_by_cases (Moved to) j q go = let r = go j in (r.0, behind number base c c.mark (objects_from number (base + size_of c) cs) r.0 r.1, r.2)
    name_seen_by_cases Hole j q go = let r = go j in (r.0, behind number base c c.mark (objects_from number (base + size_of c) cs) r.0 r.1, r.2)

-- a name of small chunks is that of an object of theirs
pub small_seen : (ks : List ChunkValue) (n : Name) → In (flat_map (λ ns. ns) (small_lists ks)) n → (k : ChunkValue) × In ks k × (k.size ≡ 1024) × In (names_in k.cells) n
small_seen [] n i = absurd i
small_seen (k ∷ ks) n i = small_seen_by_cases (k.size == 1024) refl i (small_seen ks n)
  where
    small_seen_by_cases : (b : Bool) → (k.size == 1024) ≡ b → In (flat_map (λ ns. ns) (cond b (names_in k.cells ∷ small_lists ks) (small_lists ks))) n → (In (flat_map (λ ns. ns) (small_lists ks)) n → (j : ChunkValue) × In ks j × (j.size ≡ 1024) × In (names_in j.cells) n)
        → (j : ChunkValue) × In (k ∷ ks) j × (j.size ≡ 1024) × In (names_in j.cells) n
    small_seen_by_cases true q j go = elim (in_append_cases (names_in k.cells) (flat_map (λ ns. ns) (small_lists ks)) n j) [
      | inl x ↦ (k, inl refl, eqb-true k.size 1024 q, x)
      | inr x ↦ let r = go x in (r.0, inr r.1, r.2, r.3)
    ]
    small_seen_by_cases false q j go = let r = go j in (r.0, inr r.1, r.2, r.3)

-- ---- NAMES ARE DISTINCT

abbrev Injective : List Located → Type 0
Injective os = (o q : Located) → In os o → In os q → object_name o ≡ object_name q → o ≡ q

single_append : (xs ys : List Name) → NamedOnce xs → NamedOnce ys → ((n : Name) → In xs n → In ys n → ⊥) → NamedOnce (xs ++ ys)
single_append [] ys s t f = t
single_append (x ∷ xs) ys s t f = ((λ i. elim (in_append_cases xs ys x i) [ inl j ↦ s.0 j | inr j ↦ f x (inl refl) j ]), single_append xs ys s.1 t (λ n i j. f n (inr i) j))

pub single_cells : (cs : List Cell) (number base : ℕ) → Injective (objects_from number base cs) → NamedOnce (names_in cs)
single_cells [] number base f = tt
single_cells (c ∷ cs) number base f = single_cells_by_cases c.mark refl (single_cells cs number (base + size_of c) (λ o q i j e. f o q (behind number base c c.mark os o i) (behind number base c c.mark os q j) e))
  where
    os : List Located
    os = objects_from number (base + size_of c) cs

    single_cells_by_cases : (m : Mark) → c.mark ≡ m → NamedOnce (names_in cs) → NamedOnce (named_by m (names_in cs))
    single_cells_by_cases (Born b) e go = (
      (λ i.
          let r = name_seen cs number (base + size_of c) (name_of b) i in
          let same : located number base b c ≡ r.0 = f (located number base b c) r.0 (first number base c c.mark b os e) (behind number base c c.mark os r.0 r.1) (sym r.2) in
          let at : base ≡ r.0.at.offset = ap (λ (o : Located). o.at.offset) same in
          let le : base + size_of c ≤ r.0.at.offset = (span cs number (base + size_of c) r.0 r.1).from in
          omega (arith, at, le)),
      go,
    )
    single_cells_by_cases (Moved to) e go = go
    single_cells_by_cases Hole e go = go

pub single_small : (ks : List ChunkValue) → HaveDistinctNumbers ks → Injective (objects_of_chunks (chunks_of ks)) → NamedOnce (flat_map (λ ns. ns) (small_lists ks))
single_small [] A f = tt
single_small (k ∷ ks) A f = single_small_by_cases (k.size == 1024) (single_small ks A.1 (λ o q i j e. f o q (right o i) (right q j) e))
  where
    left : (o : Located) → In (objects_from k.number 0 k.cells) o → In (objects_of_chunks (chunks_of (k ∷ ks))) o
    left o i = in_append_left (objects_from k.number 0 k.cells) (objects_of_chunks (chunks_of ks)) o i

    right : (o : Located) → In (objects_of_chunks (chunks_of ks)) o → In (objects_of_chunks (chunks_of (k ∷ ks))) o
    right o i = in_append_right (objects_from k.number 0 k.cells) (objects_of_chunks (chunks_of ks)) o i

    clash : (n : Name) → In (names_in k.cells) n → In (flat_map (λ ns. ns) (small_lists ks)) n → ⊥
    clash n i j =
        let o = name_seen k.cells k.number 0 n i in
        let s = small_seen ks n j in
        let q = name_seen s.0.cells s.0.number 0 n s.3 in
        let same : o.0 ≡ q.0 = f o.0 q.0 (left o.0 o.1) (right q.0 (in_objects (chunks_of ks) (chunk_of s.0) q.0 (in_map chunk_of ks s.0 s.1) q.1)) (o.2 ∙ sym q.2) in
        let here : o.0.at.chunk ≡ k.number = (span k.cells k.number 0 o.0 o.1).chunk in
        let off : q.0.at.chunk ≡ s.0.number = (span s.0.cells s.0.number 0 q.0 q.1).chunk in
        fresh_off ks s.0 k.number A.0 s.1 (sym off ∙ (ap (λ (x : Located). x.at.chunk) (sym same) ∙ here))

    single_small_by_cases : (b : Bool) → NamedOnce (flat_map (λ ns. ns) (small_lists ks)) → NamedOnce (flat_map (λ ns. ns) (cond b (names_in k.cells ∷ small_lists ks) (small_lists ks)))
    single_small_by_cases true go = single_append (names_in k.cells) (flat_map (λ ns. ns) (small_lists ks)) (single_cells k.cells k.number 0 (λ o q i j e. f o q (left o i) (left q j) e)) go clash
    single_small_by_cases false go = go
