-- The words of a heap at rest: those that it counts are those of its names.
use Rattle.core_invariant.proofs.Common.{◌≡◌, ℕ, suc, ◌+◌, ◌==◌, arith, All, Bool, true, false, cond, None, List, [], ◌∷◌, ◌++◌, inl, inr, length, map, refl, ap, ap₂, sym, subst, ◌∙◌, flat_map, sum_by-append, sum_by-cons, in_map, MachineState, Ledger, heap_of, small_in, words_at, object_words_of, words_sum, Born, Cell, Hole, Mark, Moved, moved_to, size_of, object_words_in, held_size, held_words, ChunkValue, Located, located, located_by, objects_from, behind, AreTidy, Rests, BelongingsStand, MemoryStands, large_chunks, chunk_names, small_chunks, Chunk, In, Memory, object_name, objects, objects_of_chunks, in_objects, large_names, named_by, names_in, small_lists, name_of, chunk_of, chunks_of}
use Rattle.refinement_laws.specs.below.run_ledger.{words_in}
use Rattle.core_invariant.proofs.HeapCounts.{large_are, small_names}
use Rattle.core_invariant.proofs.FreeChunks.{refs_long}
use Rattle.core_invariant.proofs.SmallWords.{SameWords}

module _ (m : MachineState) where
  cells : (cs : List Cell) (number base : ℕ) → All (λ c. moved_to c.mark ≡ None) cs → ((o : Located) → In (objects_from number base cs) o → SameWords m o) → words_sum m (names_in cs) ≡ object_words_in cs
  cells [] number base tidy same = refl
  cells (c ∷ cs) number base tidy same =
      cells_by_cases c.mark refl same (tidy 0 c (omega arith))
      (cells cs number (base + size_of c) (λ i d lt. tidy (suc i) d (omega (arith, lt))) (λ o i. same o (behind number base c c.mark (objects_from number (base + size_of c) cs) o i)))
    where
      cells_by_cases : (k : Mark) → c.mark ≡ k → ((o : Located) → In (located_by number base c k (objects_from number (base + size_of c) cs)) o → SameWords m o) → moved_to k ≡ None → words_sum m (names_in cs) ≡ object_words_in cs
          → words_sum m (named_by k (names_in cs)) ≡ held_size k (size_of c) + object_words_in cs
      cells_by_cases (Born b) e same t go =
          let own : words_at m (name_of b) ≡ size_of c = same (located number base b c) (inl refl) ∙ omega arith in
          sum_by-cons (words_at m) (name_of b) (names_in cs) ∙ ap₂ (λ x y. x + y) own go
      cells_by_cases (Moved to) e same t go = absurd cc
      cells_by_cases Hole e same t go = omega (arith, go)

  -- of small chunks and of large ones
  pub all_counted : (ks : List ChunkValue) → AreTidy ks → ((k : ChunkValue) (o : Located) → In ks k → In (chunk_of k).objects o → SameWords m o)
      → words_sum m (flat_map (λ ns. ns) (small_lists ks)) + words_sum m (large_names ks) ≡ held_words ks
  all_counted [] tidy same = refl
  all_counted (k ∷ ks) tidy same =
      all_counted_by_cases (k.size == 1024)
      (cells k.cells k.number 0 (tidy 0 k (omega arith)).unmoved (λ o i. same k o (inl refl) i))
      (all_counted ks (λ i d lt. tidy (suc i) d (omega (arith, lt))) (λ c o i. same c o (inr i)))
    where
      all_counted_by_cases : (b : Bool) → words_sum m (names_in k.cells) ≡ object_words_in k.cells → words_sum m (flat_map (λ ns. ns) (small_lists ks)) + words_sum m (large_names ks) ≡ held_words ks
          → words_sum m (flat_map (λ ns. ns) (cond b (names_in k.cells ∷ small_lists ks) (small_lists ks))) + words_sum m (cond b (large_names ks) (names_in k.cells ++ large_names ks)) ≡ object_words_in k.cells + held_words ks
      all_counted_by_cases true own go =
          let both : words_sum m (names_in k.cells ++ flat_map (λ ns. ns) (small_lists ks)) ≡ words_sum m (names_in k.cells) + words_sum m (flat_map (λ ns. ns) (small_lists ks)) = sum_by-append (words_at m) (names_in k.cells) (flat_map (λ ns. ns) (small_lists ks)) in
          omega (arith, both, own, go)
      all_counted_by_cases false own go =
          let both : words_sum m (names_in k.cells ++ large_names ks) ≡ words_sum m (names_in k.cells) + words_sum m (large_names ks) = sum_by-append (words_at m) (names_in k.cells) (large_names ks) in
          omega (arith, both, own, go)

-- a value stands for these accounts, and a heap with these chunks is at rest
module _ (v : Memory) (l : Ledger) (t : ℕ) (ks : List ChunkValue) (V : MemoryStands v l) (rests : Rests l t) (here : (v.belongings t).chunks ≡ chunks_of ks) where
  H : BelongingsStand v l t
  H = V.belongings t rests

  -- each object has as many words as the machine's object of its name
  pub words_same : (o : Located) → In (objects v t) o → SameWords l.machine o
  words_same o i =
      let c = V.contents t o rests i in
      ap object_words_of c.1 ∙ ap₂ (λ a b. 2 + a + b) (sym (refs_long _ o.refs c.0.refs c.2.refs)) (ap length (sym c.2.ints))

  pub small_are : small_lists ks ≡ (heap_of l t).chunks
  small_are = sym (small_names ks) ∙ (ap (λ (cs : List Chunk). map chunk_names (small_chunks cs)) (sym here) ∙ H.names.small)

  pub large_ones : large_names ks ≡ (heap_of l t).large
  large_ones = sym (large_are ks) ∙ (ap (λ (cs : List Chunk). map object_name (objects_of_chunks (large_chunks cs))) (sym here) ∙ H.names.large)

  -- ITS WORDS are those of the names that it holds
  pub words_are : AreTidy ks → words_in l.machine (heap_of l t) ≡ held_words ks
  words_are tidy =
      sum_by-append (words_at l.machine) (small_in (heap_of l t)) (heap_of l t).large
      ∙ (ap₂ (λ ns ms. words_sum l.machine (flat_map (λ xs. xs) ns) + words_sum l.machine ms) (sym small_are) (sym large_ones)
      ∙ all_counted l.machine ks tidy (λ k o i j. words_same o (subst (λ cs. In (objects_of_chunks cs) o) (sym here) (in_objects (chunks_of ks) (chunk_of k) o (in_map chunk_of ks k i) j))))
