-- The words of a heap's small objects: those that it counts are those of its names.
use Rattle.core_invariant.proofs.Common.{◌≡◌, ℕ, suc, ◌+◌, ◌*◌, ◌/◌, ◌<◌, ◌≤◌, ◌==◌, not, arith, Bool, true, false, cond, None, List, [], ◌∷◌, All, nat_le, inl, inr, refl, ap, ap₂, sym, subst, ◌∙◌, le-leb, flat_map, cond-true, cond-false, eqb-true, sum_by-append, sum_by-cons, MachineState, words_at, words_sum, Born, Cell, Hole, Mark, Moved, moved_to, size_of, held_size, small_part, small_words, sum_in, ChunkValue, words_in, Located, located, located_by, objects_from, behind, AreTidy, CellsFitInChunks, HoldsLarge, words, In, object_name, named_by, names_in, small_lists, name_of, chunk_of}

-- the machine's object of this name has as many words
abbrev pub SameWords : MachineState → Located → Type 0
SameWords m o = words_at m (object_name o) ≡ words o

module _ (m : MachineState) where
  -- all objects of a small chunk are small
  small_cells : (cs : List Cell) (number base : ℕ) → words_in cs ≤ 1024 → All (λ c. moved_to c.mark ≡ None) cs → ((o : Located) → In (objects_from number base cs) o → SameWords m o) → words_sum m (names_in cs) ≡ sum_in small_part cs
  small_cells [] number base few tidy same = refl
  small_cells (c ∷ cs) number base few tidy same =
      small_cells_by_cases c.mark refl same (tidy 0 c (omega arith))
      (small_cells cs number (base + size_of c) (omega (arith, few)) (λ i d lt. tidy (suc i) d (omega (arith, lt))) (λ o i. same o (behind number base c c.mark (objects_from number (base + size_of c) cs) o i)))
    where
      rest : List Located
      rest = objects_from number (base + size_of c) cs

      small : small_part (size_of c) ≡ size_of c
      small = cond-true (nat_le (size_of c) 1024) (size_of c) 0 (le-leb (size_of c) 1024 (omega (arith, few)))

      small_cells_by_cases : (k : Mark) → c.mark ≡ k → ((o : Located) → In (located_by number base c k (objects_from number (base + size_of c) cs)) o → SameWords m o) → moved_to k ≡ None → words_sum m (names_in cs) ≡ sum_in small_part cs
          → words_sum m (named_by k (names_in cs)) ≡ held_size k (small_part (size_of c)) + sum_in small_part cs
      small_cells_by_cases (Born b) e same t go =
          let own : words_at m (name_of b) ≡ small_part (size_of c) = same (located number base b c) (inl refl) ∙ (omega arith ∙ sym small) in
          sum_by-cons (words_at m) (name_of b) (names_in cs) ∙ ap₂ (λ x y. x + y) own go
      small_cells_by_cases (Moved to) e same t go = absurd cc
      small_cells_by_cases Hole e same t go = omega (arith, go)

  -- and none of a large one
  large_cells : (cs : List Cell) (number base : ℕ) → All (λ c. moved_to c.mark ≡ None) cs → ((o : Located) → In (objects_from number base cs) o → 1024 < words o) → sum_in small_part cs ≡ 0
  large_cells [] number base tidy large = refl
  large_cells (c ∷ cs) number base tidy large =
      large_cells_by_cases c.mark refl large (tidy 0 c (omega arith))
      (large_cells cs number (base + size_of c) (λ i d lt. tidy (suc i) d (omega (arith, lt))) (λ o i. large o (behind number base c c.mark (objects_from number (base + size_of c) cs) o i)))
    where
      large_cells_by_cases : (k : Mark) → c.mark ≡ k → ((o : Located) → In (located_by number base c k (objects_from number (base + size_of c) cs)) o → 1024 < words o) → moved_to k ≡ None → sum_in small_part cs ≡ 0
          → held_size k (small_part (size_of c)) + sum_in small_part cs ≡ 0
      large_cells_by_cases (Born b) e large t go =
          let big : 1024 < words (located number base b c) = large (located number base b c) (inl refl) in
          let none : small_part (size_of c) ≡ 0 = cond-false (nat_le (size_of c) 1024) (size_of c) 0 (not_le (size_of c) (omega (arith, big))) in
          omega (arith, none, go)
        where
          not_le : (n : ℕ) → 1024 < n → nat_le n 1024 ≡ false
          not_le n lt = grind (arith, lt)
      large_cells_by_cases (Moved to) e large t go = absurd cc
      large_cells_by_cases Hole e large t go = omega (arith, go)

  -- a large chunk's object is large
  large_in : (k : ChunkValue) → k.size ≡ 1024 * (k.size / 1024) → (k.size == 1024) ≡ false → HoldsLarge (chunk_of k) → (o : Located) → In (chunk_of k).objects o → 1024 < words o
  large_in k whole big (inl none) o i = absurd (subst (λ os. In os o) none i)
  large_in k whole big (inr (q, only, at, fits)) o i = elim (subst (λ os. In os o) only i) [
    | inl e ↦
        let ne : k.size ≡ 1024 → ⊥ = λ z. cc in
        subst (λ (z : Located). 1024 < words z) e (large_in_by_cases (k.size / 1024) (words q) whole ne fits (omega arith))
    | inr j ↦ absurd j
  ]
    where
      large_in_by_cases : (u n : ℕ) → k.size ≡ 1024 * u → (k.size ≡ 1024 → ⊥) → u ≡ (n + 1023) / 1024 → 2 ≤ n → 1024 < n
      large_in_by_cases u n size ne fits some = omega (arith, size, ne, fits, some)

  -- THE WORDS of all names of small chunks
  pub small_counted : (ks : List ChunkValue) → AreTidy ks → CellsFitInChunks ks → ((k : ChunkValue) → In ks k → k.size ≡ 1024 * (k.size / 1024)) → ((k : ChunkValue) → In ks k → (chunk_of k).large ≡ true → HoldsLarge (chunk_of k))
      → ((k : ChunkValue) (o : Located) → In ks k → In (chunk_of k).objects o → SameWords m o) → words_sum m (flat_map (λ ns. ns) (small_lists ks)) ≡ small_words ks
  small_counted [] tidy within whole large same = refl
  small_counted (k ∷ ks) tidy within whole large same =
      small_counted_by_cases (k.size == 1024) refl
      (small_counted ks (λ i d lt. tidy (suc i) d (omega (arith, lt))) (λ i d lt. within (suc i) d (omega (arith, lt))) (λ c i. whole c (inr i)) (λ c i. large c (inr i)) (λ c o i. same c o (inr i)))
    where
      small_counted_by_cases : (b : Bool) → (k.size == 1024) ≡ b → words_sum m (flat_map (λ ns. ns) (small_lists ks)) ≡ small_words ks
          → words_sum m (flat_map (λ ns. ns) (cond b (names_in k.cells ∷ small_lists ks) (small_lists ks))) ≡ sum_in small_part k.cells + small_words ks
      small_counted_by_cases true e go =
          let size : k.size ≡ 1024 = eqb-true k.size 1024 e in
          let few : words_in k.cells ≤ k.size = within 0 k (omega arith) in
          sum_by-append (words_at m) (names_in k.cells) (flat_map (λ ns. ns) (small_lists ks))
          ∙ ap₂ (λ x y. x + y) (small_cells k.cells k.number 0 (omega (arith, size, few)) (tidy 0 k (omega arith)).unmoved (λ o i. same k o (inl refl) i)) go
      small_counted_by_cases false e go =
          let none : sum_in small_part k.cells ≡ 0 = large_cells k.cells k.number 0 (tidy 0 k (omega arith)).unmoved (large_in k (whole k (inl refl)) e (large k (inl refl) (ap not e))) in
          omega (arith, none, go)
