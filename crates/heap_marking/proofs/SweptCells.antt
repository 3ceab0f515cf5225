-- What a sweep leaves of the objects of one chunk.
use Rattle.heap_marking.proofs.Common.{◌≡◌, ℕ, suc, ◌+◌, arith, Bool, true, false, cond, not, None, List, [], ◌∷◌, All, filter, inl, inr, refl, ap, ap₂, sym, ◌∙◌, ◌||◌, is_empty, Addr, Born, Cell, Hole, Moved, moved_to, size_of, ChunkValue, Located, located, located_by, objects_from, sifted_are_filtered, has_address, has_object, is_object, swept_cell, swept_cells, swept_chunk, size_swept, HoldsLarge, chunk_of}
use Rattle.core_invariant.specs.below.object_layout.{Mark, words_in}

-- the object stays if its address is kept
abbrev pub is_there : List Addr → Located → Bool
is_there kept o = has_address kept o.at

module _ (kept : List Addr) (number : ℕ) where
  abbrev place : ℕ → Addr
  place base = record { chunk = number; offset = base }

  -- an object is left if one is kept
  pub object_left : (cs : List Cell) (base : ℕ) → All (λ c. moved_to c.mark ≡ None) cs → has_object (swept_cells kept number base cs) ≡ not (is_empty (filter (is_there kept) (objects_from number base cs)))
  object_left [] base tidy = refl
  object_left (c ∷ cs) base tidy = object_left_by_cases (has_address kept (place base)) refl c.mark refl (tidy 0 c (omega arith)) (object_left cs (base + size_of c) (λ i d lt. tidy (suc i) d (omega (arith, lt))))
    where
      object_left_by_cases : (v : Bool) → has_address kept (place base) ≡ v → (m : Mark) → c.mark ≡ m → moved_to m ≡ None
          → has_object (swept_cells kept number (base + size_of c) cs) ≡ not (is_empty (filter (is_there kept) (objects_from number (base + size_of c) cs)))
          → (is_object (swept_cell v c).mark || has_object (swept_cells kept number (base + size_of c) cs)) ≡ not (is_empty (filter (is_there kept) (located_by number base c m (objects_from number (base + size_of c) cs))))
      object_left_by_cases true q (Born b) e u go =
          ap (λ z. is_object z || has_object (swept_cells kept number (base + size_of c) cs)) e
          ∙ sym (ap (λ z. not (is_empty (cond z (located number base b c ∷ filter (is_there kept) (objects_from number (base + size_of c) cs)) (filter (is_there kept) (objects_from number (base + size_of c) cs))))) q)
      object_left_by_cases true q (Moved to) e u go = absurd cc
      object_left_by_cases true q Hole e u go = ap (λ z. is_object z || has_object (swept_cells kept number (base + size_of c) cs)) e ∙ go
      object_left_by_cases false q (Born b) e u go =
          go ∙ sym (ap (λ z. not (is_empty (cond z (located number base b c ∷ filter (is_there kept) (objects_from number (base + size_of c) cs)) (filter (is_there kept) (objects_from number (base + size_of c) cs))))) q)
      object_left_by_cases false q (Moved to) e u go = absurd cc
      object_left_by_cases false q Hole e u go = go

  pub words_kept : (cs : List Cell) (base : ℕ) → words_in (swept_cells kept number base cs) ≡ words_in cs
  words_kept [] base = refl
  words_kept (c ∷ cs) base = ap₂ (λ a b. a + b) (size_swept (has_address kept (place base)) c) (words_kept cs (base + size_of c))

-- a large chunk holds its object, or nothing
pub large_kept : (kept : List Addr) (k : ChunkValue) → HoldsLarge (chunk_of k) → HoldsLarge (chunk_of (swept_chunk kept k))
large_kept kept k (inl none) = inl (sifted_are_filtered (has_address kept) k ∙ ap (filter (is_there kept)) none)
large_kept kept k (inr (o, only, at, fits)) = large_kept_by_cases (is_there kept o) refl
  where
    left : (b : Bool) → is_there kept o ≡ b → (chunk_of (swept_chunk kept k)).objects ≡ cond b (o ∷ []) []
    left b q = sifted_are_filtered (has_address kept) k ∙ (ap (filter (is_there kept)) only ∙ ap (λ z. cond z (o ∷ []) []) q)

    large_kept_by_cases : (b : Bool) → is_there kept o ≡ b → HoldsLarge (chunk_of (swept_chunk kept k))
    large_kept_by_cases true q = inr (o, left true q, at, fits)
    large_kept_by_cases false q = inl (left false q)
