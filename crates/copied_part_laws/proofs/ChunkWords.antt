-- The words that chunks hold, and their units.
use Rattle.copied_part_laws.proofs.Common.{◌≡◌, ℕ, ◌+◌, ◌==◌, arith, Bool, true, false, cond, None, List, [], ◌∷◌, ◌++◌, length, map, nat_lt, inl, inr, refl, ap, flat_map, length-map, sum_by-append, sum_by-cons, in_append_left, in_append_right, MachineState, words_at, words_sum, Addr, Born, Cell, Hole, Mark, Moved, moved_to, size_of, ChunkValue, number_of, cell_of, object_words_in as held_cells, held_size, held_words, Located, located, objects_from, behind, first, unit_count, AreNew, Laying, laid_all, laid_one, room_in, emptied, numbers, In, object_name, objects_of_chunks, words, large_names, named_by, names_in, small_lists, name_of, chunks_of}
use Rattle.leaf_collections.specs.below.leaf_heap.{units}
use Rattle.copied_part_laws.proofs.ObjectsPlaced.{opened_new}

-- ---- WORDS HELD

module _ (m : MachineState) where
  cells_held : (cs : List Cell) (number base : ℕ) → ((c : Cell) → In cs c → moved_to c.mark ≡ None) → ((o : Located) → In (objects_from number base cs) o → words_at m (object_name o) ≡ words o) → held_cells cs ≡ words_sum m (names_in cs)
  cells_held [] number base f g = refl
  cells_held (c ∷ cs) number base f g =
      cells_held_by_cases c.mark refl (f c (inl refl)) (cells_held cs number (base + size_of c) (λ x i. f x (inr i)) (λ o i. g o (behind number base c c.mark (objects_from number (base + size_of c) cs) o i)))
    where
      cells_held_by_cases : (k : Mark) → c.mark ≡ k → moved_to k ≡ None → held_cells cs ≡ words_sum m (names_in cs) → held_size k (size_of c) + held_cells cs ≡ words_sum m (named_by k (names_in cs))
      cells_held_by_cases (Born b) e n go =
          let w : words_at m (name_of b) ≡ 2 + length c.refs + length c.ints = g (located number base b c) (first number base c c.mark b (objects_from number (base + size_of c) cs) e) in
          let s = sum_by-cons (words_at m) (name_of b) (names_in cs) in
          omega (arith, w, s, go)
      cells_held_by_cases (Moved to) e n go = absurd cc
      cells_held_by_cases Hole e n go = omega (arith, go)

  pub chunks_held : (ks : List ChunkValue) → ((k : ChunkValue) → In ks k → (c : Cell) → In k.cells c → moved_to c.mark ≡ None) → ((o : Located) → In (objects_of_chunks (chunks_of ks)) o → words_at m (object_name o) ≡ words o)
      → held_words ks ≡ words_sum m (flat_map (λ ns. ns) (small_lists ks)) + words_sum m (large_names ks)
  chunks_held [] f g = omega arith
  chunks_held (k ∷ ks) f g =
      chunks_held_by_cases (k.size == 1024)
      (cells_held k.cells k.number 0 (f k (inl refl)) (λ o i. g o (in_append_left (objects_from k.number 0 k.cells) (objects_of_chunks (chunks_of ks)) o i)))
      (chunks_held ks (λ x i. f x (inr i)) (λ o i. g o (in_append_right (objects_from k.number 0 k.cells) (objects_of_chunks (chunks_of ks)) o i)))
    where
      chunks_held_by_cases : (b : Bool) → held_cells k.cells ≡ words_sum m (names_in k.cells) → held_words ks ≡ words_sum m (flat_map (λ ns. ns) (small_lists ks)) + words_sum m (large_names ks)
          → held_cells k.cells + held_words ks ≡ words_sum m (flat_map (λ ns. ns) (cond b (names_in k.cells ∷ small_lists ks) (small_lists ks))) + words_sum m (cond b (large_names ks) (names_in k.cells ++ large_names ks))
      chunks_held_by_cases true e go = let s = sum_by-append (words_at m) (names_in k.cells) (flat_map (λ ns. ns) (small_lists ks)) in omega (arith, e, go, s)
      chunks_held_by_cases false e go = let s = sum_by-append (words_at m) (names_in k.cells) (large_names ks) in omega (arith, e, go, s)

-- ---- UNITS

pub units_emptied : (ks : List ChunkValue) → unit_count (map emptied ks) ≡ unit_count ks
units_emptied [] = refl
units_emptied (k ∷ ks) = ap (λ n. units k.size + n) (units_emptied ks)

pub units_new : (ks : List ChunkValue) → AreNew ks → unit_count ks ≡ length ks
units_new [] n = refl
units_new (k ∷ ks) n = let s : k.size ≡ 1024 = n.0.1 in let e = units_new ks n.1 in omega (arith, s, e)

pub spare_new : (y : Laying) (h : List ChunkValue) (xs : List Addr) → AreNew y.spare → AreNew (laid_all y h xs).spare
spare_new y h [] n = n
spare_new y h (a ∷ xs) n = spare_new (laid_one y (cell_of h a)) h xs (opened_new y (nat_lt (room_in y.laid) (size_of (cell_of h a))) n)

pub count_numbers : (ks : List ChunkValue) → length (numbers ks) ≡ length ks
count_numbers ks = length-map ks number_of
