-- A run of private steps keeps the addresses of objects: it only adds to existing chunks.
use Rattle.core_invariant.proofs.Common.{◌≡◌, ℕ, zero, suc, ◌-◌, Bool, true, false, cond, Option, Some, None, List, [], ◌∷◌, map, nat_le, slice_set, ◌==◌, inl, inr, refl, ap, sym, subst, ◌∙◌, in_map, map_in, ProgramText, MachineState, asked, Addr, Cell, no_cell, size_of, cell_of, chunk_at, ChunkValue, cell_at, LeafHeapValue, place_for, with_object_placed, cell_of-others, In, Private, outline_after, outline_by, outline_of, outline_of_cell, outline_of_chunk, steps, Places, outline_size, born_is, KeepsPlaces}
use Rattle.refinement_laws.specs.below.task_machine.{Ran}

mark_at : (cs : List Cell) (off : ℕ) → (cell_at (map outline_of_cell cs) off).mark ≡ (cell_at cs off).mark
mark_at [] off = refl
mark_at (c ∷ cs) zero = refl
mark_at (c ∷ cs) (suc n) =
    ap (λ z. (cond (nat_le z (suc n)) (cell_at (map outline_of_cell cs) (suc n - z)) no_cell).mark) (outline_size c)
    ∙ mark_at_by_cases (nat_le (size_of c) (suc n)) (mark_at cs (suc n - size_of c))
  where
    mark_at_by_cases : (b : Bool) → (cell_at (map outline_of_cell cs) (suc n - size_of c)).mark ≡ (cell_at cs (suc n - size_of c)).mark
        → (cond b (cell_at (map outline_of_cell cs) (suc n - size_of c)) no_cell).mark ≡ (cond b (cell_at cs (suc n - size_of c)) no_cell).mark
    mark_at_by_cases true e = e
    mark_at_by_cases false e = refl

mark_of : (ks : List ChunkValue) (a : Addr) → (cell_of (map outline_of_chunk ks) a).mark ≡ (cell_of ks a).mark
mark_of [] a = refl
mark_of (k ∷ ks) a = mark_of_by_cases (k.number == a.chunk) (mark_of ks a)
  where
    mark_of_by_cases : (b : Bool) → (cell_of (map outline_of_chunk ks) a).mark ≡ (cell_of ks a).mark
        → (cond b (cell_at (map outline_of_cell k.cells) a.offset) (cell_of (map outline_of_chunk ks) a)).mark ≡ (cond b (cell_at k.cells a.offset) (cell_of ks a)).mark
    mark_of_by_cases true e = mark_at k.cells a.offset
    mark_of_by_cases false e = e

-- each chunk was there, with the same size
abbrev Numbers : List ChunkValue → List ChunkValue → Type 0
Numbers old new = (k : ChunkValue) → In new k → (j : ChunkValue) × In old j × (j.number ≡ k.number) × (j.size ≡ k.size)

numbers_set : (ks : List ChunkValue) (i : ℕ) (y k : ChunkValue) → y.number ≡ (chunk_at ks i).number → y.size ≡ (chunk_at ks i).size → In (slice_set ks i y) k → (j : ChunkValue) × In ks j × (j.number ≡ k.number) × (j.size ≡ k.size)
numbers_set [] i y k e s h = absurd h
numbers_set (x ∷ xs) zero y k e s (inl q) = (x, inl refl, sym e ∙ ap (λ (z : ChunkValue). z.number) q, sym s ∙ ap (λ (z : ChunkValue). z.size) q)
numbers_set (x ∷ xs) zero y k e s (inr h) = (k, inr h, refl, refl)
numbers_set (x ∷ xs) (suc i) y k e s (inl q) = (x, inl refl, ap (λ (z : ChunkValue). z.number) q, ap (λ (z : ChunkValue). z.size) q)
numbers_set (x ∷ xs) (suc i) y k e s (inr h) = let r = numbers_set xs i y k e s h in (r.0, inr r.1, r.2, r.3)

placed_keeps : (h : LeafHeapValue) (o : Option ℕ) (c : Cell) → KeepsPlaces h (with_object_placed h o c)
placed_keeps h None c = record { stays = λ a b e. e; numbers = λ k i. (k, i, refl, refl) }
placed_keeps h (Some i) c = record {
  stays = λ a b e. ap (λ (z : Cell). z.mark) (cell_of-others h.chunks i c a (born_is (cell_of h.chunks a).mark b e)) ∙ e;
  numbers = λ k j. numbers_set h.chunks i _ k refl refl j;
}

keeps_both : (f g h : LeafHeapValue) → KeepsPlaces f g → KeepsPlaces g h → KeepsPlaces f h
keeps_both f g h A B = record {
  stays = λ a b e. B.stays a b (A.stays a b e);
  numbers = λ k i. (let x = B.numbers k i in let y = A.numbers x.0 x.1 in (y.0, y.1, y.2 ∙ x.2, y.3 ∙ x.3));
}

by_keeps : (m : MachineState) (t : ℕ) (h : LeafHeapValue) (o : Option ℕ) → KeepsPlaces h (outline_by m t h o)
by_keeps m t h None = record { stays = λ a b e. e; numbers = λ k i. (k, i, refl, refl) }
by_keeps m t h (Some w) = placed_keeps h (place_for h w) _

after_keeps : (p : ProgramText) (m : MachineState) (t : ℕ) (h : LeafHeapValue) (i : ℕ) → KeepsPlaces h (outline_after p m t h i)
after_keeps p m t h zero = record { stays = λ a b e. e; numbers = λ k i. (k, i, refl, refl) }
after_keeps p m t h (suc i) = keeps_both h (outline_after p m t h i) (outline_after p m t h (suc i)) (after_keeps p m t h i) (by_keeps (steps p m t i) t (outline_after p m t h i) (asked p (steps p m t i) t))

-- a run keeps them
pub run_keeps_places : (p : ProgramText) (old new : Private) (m : MachineState) (above : Places) (n : ℕ) → Ran p old m above n new → KeepsPlaces old.heap new.heap
run_keeps_places p old new m above n R =
    let K : KeepsPlaces (outline_of old.heap) (outline_of new.heap) = subst (KeepsPlaces (outline_of old.heap)) (sym R.outline) (after_keeps p m old.task (outline_of old.heap) n) in
    record {
      stays = λ a b e. sym (mark_of new.heap.chunks a) ∙ K.stays a b (mark_of old.heap.chunks a ∙ e);
      numbers = λ k i.
          let j = K.numbers (outline_of_chunk k) (in_map outline_of_chunk new.heap.chunks k i) in
          let c = map_in outline_of_chunk old.heap.chunks j.0 j.1 in
          (c.0, c.1, ap (λ (z : ChunkValue). z.number) c.2 ∙ j.2, ap (λ (z : ChunkValue). z.size) c.2 ∙ j.3);
    }
