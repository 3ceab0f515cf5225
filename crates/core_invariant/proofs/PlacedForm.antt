-- What is known of a heap's chunks stays known when an object is placed.
use Rattle.core_invariant.proofs.Common.{◌≡◌, ℕ, ◌+◌, ◌-◌, ◌*◌, ◌/◌, ◌<◌, ◌≤◌, ◌^◌, arith, true, false, Option, Some, None, List, [], ◌∷◌, ◌++◌, length, length-set, nat_le, option_map, inl, inr, refl, ap, sym, subst, ◌∙◌, le-leb, cases_eq, cases_lt, cond-true, same_Some, get_or_default, get_or-set_other, get_or-set_same, All-from_get_or, All-get_or, Birth, Born, Cell, moved_to, size_of, chunk_at, held_words, no_chunk, object_count, place_in, push_object, small_words, ChunkValue, words_in, located, located_by, objects_from, appended_is_last, words_in-push, AreTidy, LeafHeapValue, AgreesWithChunks, IsTidy, saturating_words, place_for, placed_at, units, settled_placed, HoldsLarge, HeapIsShaped, size_pushed, shape_placed, chunk_of}
use Rattle.leaf_heap.proofs.HeapLemmas as heap

-- a chunk: a large one is empty, or holds one object that has exactly its units
pub record IsFormed (k : ChunkValue) : Type 0 where
  pub tidy : IsTidy k
  pub within : words_in k.cells ≤ k.size
  pub whole : k.size ≡ 1024 * (k.size / 1024)
  pub large : (k.size ≡ 1024 → ⊥) → HoldsLarge (chunk_of k)

-- each chunk of the heap is one, and a large one without objects is the reserved one
pub record Formed (h : LeafHeapValue) : Type 0 where
  pub shaped : HeapIsShaped h
  pub each : (i : ℕ) → i < length h.chunks → IsFormed (chunk_at h.chunks i)
  pub spare : (i : ℕ) → i < length h.chunks → ((chunk_at h.chunks i).size ≡ 1024 → ⊥) → (chunk_of (chunk_at h.chunks i)).objects ≡ [] → h.reserved ≡ Some i

pub formed_tidy : (h : LeafHeapValue) → Formed h → AreTidy h.chunks
formed_tidy h F = All-from_get_or IsTidy h.chunks no_chunk (λ i lt. (F.each i lt).tidy)

not_empty : {A : Type 0} (xs : List A) (x : A) → xs ++ x ∷ [] ≡ [] → ⊥
not_empty [] x e = absurd cc
not_empty (y ∷ xs) x e = absurd cc

none_lost : {A : Type 0} → true ≡ false → A
none_lost e = absurd cc

-- ---- AN OBJECT IS PLACED

module _ (h : LeafHeapValue) (F : Formed h) (i : ℕ) (c : Cell) (b : Birth) (born : c.mark ≡ Born b) (fits : place_for h (size_of c) ≡ Some i) where
  abbrev K : ChunkValue
  K = chunk_at h.chunks i

  abbrev fuller : ChunkValue
  fuller = record K { cells = K.cells ++ c ∷ [] }

  abbrev pushed : List ChunkValue
  pushed = push_object h.chunks i c

  abbrev table : ℕ → Option ℕ
  table n = option_map (λ j. 2 ^ 63 - j) (place_in h.chunks n)

  keeps : AgreesWithChunks h.chunks (record { layers = []; stale = []; places = 0; lost = true }) h.current h.reserved (saturating_words (held_words h.chunks)) (saturating_words (object_count h.chunks)) (saturating_words (small_words h.chunks)) (2 ^ 63) table (length h.chunks)
  keeps = record {
    current = F.shaped.current;
    reserved = F.shaped.reserved;
    within = All-from_get_or (λ (k : ChunkValue). words_in k.cells ≤ k.size) h.chunks no_chunk (λ j lt. (F.each j lt).within);
    words = refl;
    objects = refl;
    small = refl;
    least = omega arith;
    moved = omega arith;
    table = λ n. refl;
    each = refl;
    shown = record { same = λ on. none_lost on; no_other = λ on. none_lost on };
  }

  inside : i < length h.chunks
  inside = heap.fits_in h _ _ _ _ _ _ _ keeps (size_of c) i fits (omega arith)

  room : words_in K.cells + size_of c ≤ K.size
  room = heap.fits_room h _ _ _ _ _ _ _ keeps (size_of c) i fits (omega arith)

  pushed_chunk_is : chunk_at pushed i ≡ fuller
  pushed_chunk_is = get_or-set_same h.chunks i fuller no_chunk inside

  other : (j : ℕ) → (j ≡ i → ⊥) → chunk_at pushed j ≡ chunk_at h.chunks j
  other j ne = get_or-set_other h.chunks i j fuller no_chunk ne

  as_long : length pushed ≡ length h.chunks
  as_long = length-set h.chunks i fuller

  tidy_then : IsTidy fuller
  tidy_then =
      let S = settled_placed h _ _ _ _ _ _ _ keeps i c fits (ap moved_to born) K (get_or_default h.chunks i no_chunk K inside) (record { tidy = formed_tidy h F; apart = F.shaped.apart }) in
      subst IsTidy pushed_chunk_is (All-get_or IsTidy pushed i no_chunk (omega (arith, inside, as_long)) S.tidy)

  -- it comes after the others
  objects_then : (chunk_of fuller).objects ≡ (chunk_of K).objects ++ located K.number (words_in K.cells) b c ∷ []
  objects_then = appended_is_last K c b born

  -- a large one is alone, and has exactly the units of its chunk
  large_then : (K.size ≡ 1024 → ⊥) → HoldsLarge (chunk_of fuller)
  large_then big = elim (cases_lt 1024 (size_of c)) [
    | inl l ↦
        let f = heap.fits_large h (size_of c) i fits l in
        let none : K.cells ≡ [] = (heap.reserved_in h _ _ _ _ _ _ _ keeps i f.0).1.1 in
        let size : K.size ≡ 1024 * units (size_of c) = f.1 in
        inr (
          located K.number 0 b c,
          ap (λ cs. objects_from K.number 0 (cs ++ c ∷ [])) none ∙ ap (λ m. located_by K.number 0 c m []) born,
          refl,
          omega (arith, size),
        )
    | inr le ↦ absurd (big (heap.current_in h _ _ _ _ _ _ _ keeps i (heap.fits_small h (size_of c) i fits le).0).1)
  ]

  formed_there : IsFormed fuller
  formed_there = record {
    tidy = tidy_then;
    within = let e : words_in (K.cells ++ c ∷ []) ≡ words_in K.cells + size_of c = words_in-push K.cells c in let r = room in omega (arith, e, r);
    whole = (F.each i inside).whole;
    large = large_then;
  }

  each_then : (j : ℕ) → j < length pushed → IsFormed (chunk_at pushed j)
  each_then j lt = elim (cases_eq j i) [
    | inl e ↦ subst (λ n. IsFormed (chunk_at pushed n)) (sym e) (subst IsFormed (sym pushed_chunk_is) formed_there)
    | inr ne ↦ subst IsFormed (sym (other j ne)) (F.each j (omega (arith, lt, as_long)))
  ]

  -- the reserved chunk is another one, or isn't reserved any more
  reserved_still : (j : ℕ) → (j ≡ i → ⊥) → h.reserved ≡ Some j → (placed_at h i c).reserved ≡ Some j
  reserved_still j ne was = elim (cases_lt 1024 (size_of c)) [
    | inl l ↦ absurd (ne (same_Some j i (sym was ∙ (heap.fits_large h (size_of c) i fits l).0)))
    | inr le ↦ cond-true (nat_le (size_of c) 1024) h.reserved None (le-leb (size_of c) 1024 le) ∙ was
  ]

  spare_then : (j : ℕ) → j < length pushed → ((chunk_at pushed j).size ≡ 1024 → ⊥) → (chunk_of (chunk_at pushed j)).objects ≡ [] → (placed_at h i c).reserved ≡ Some j
  spare_then j lt big empty = elim (cases_eq j i) [
    | inl e ↦
        let at : chunk_at pushed j ≡ fuller = ap (chunk_at pushed) e ∙ pushed_chunk_is in
        absurd (not_empty (chunk_of K).objects (located K.number (words_in K.cells) b c) (sym objects_then ∙ (ap (λ (k : ChunkValue). (chunk_of k).objects) (sym at) ∙ empty)))
    | inr ne ↦
        reserved_still j ne
        (F.spare j (omega (arith, lt, as_long)) (λ z. big (size_pushed h.chunks i c j ∙ z)) (ap (λ (k : ChunkValue). (chunk_of k).objects) (sym (other j ne)) ∙ empty))
  ]

  pub formed_placed : Formed (placed_at h i c)
  formed_placed = record { shaped = shape_placed h F.shaped i c fits; each = each_then; spare = spare_then }
