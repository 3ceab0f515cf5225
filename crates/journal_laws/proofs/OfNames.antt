-- What is reachable within a heap depends only on the held names.
use Rattle.journal_laws.proofs.Common.{◌≡◌, ℕ, zero, suc, Option, Some, None, List, [], ◌∷◌, ◌++◌, filter, slice_get, slice_set, inl, inr, refl, ap, ap₂, sym, ◌∙◌, flat_map, cases_eq, same_Some, got_same, got_other, Name, registers, refs_at, owner_of, Heap, Ledger, fresh, held, frames_of, held_in, heap_of, is_proper_ancestor, or_fresh, within, reached}

-- the names of all heaps, after one heap's account is written with the same names
pub flat_set : (heaps : List Heap) (t : ℕ) (h h' : Heap) → slice_get heaps t ≡ Some h → held_in h' ≡ held_in h → flat_map held_in (slice_set heaps t h') ≡ flat_map held_in heaps
flat_set [] t h h' is e = refl
flat_set (g ∷ heaps) zero h h' is e = ap (λ ns. ns ++ flat_map held_in heaps) (e ∙ ap held_in (sym (same_Some g h is)))
flat_set (g ∷ heaps) (suc t) h h' is e = ap (λ ns. held_in g ++ ns) (flat_set heaps t h h' is e)

-- and after fresh heaps are added
pub flat_fresh : (heaps : List Heap) → flat_map held_in (heaps ++ fresh ∷ fresh ∷ []) ≡ flat_map held_in heaps
flat_fresh [] = refl
flat_fresh (h ∷ heaps) = ap (λ ns. held_in h ++ ns) (flat_fresh heaps)

pub held_set : (heaps : List Heap) (t : ℕ) (h h' : Heap) → slice_get heaps t ≡ Some h → held_in h' ≡ held_in h → (u : ℕ) → held_in (or_fresh (slice_get (slice_set heaps t h') u)) ≡ held_in (or_fresh (slice_get heaps u))
held_set heaps t h h' is e u = elim (cases_eq u t) [
  | inl same ↦
      ap (λ k. held_in (or_fresh (slice_get (slice_set heaps t h') k))) same
      ∙ (ap (λ o. held_in (or_fresh o)) (got_same heaps t h h' is) ∙ (e ∙ (ap (λ o. held_in (or_fresh o)) (sym is) ∙ ap (λ k. held_in (or_fresh (slice_get heaps k))) (sym same))))
  | inr ne ↦ ap (λ o. held_in (or_fresh o)) (got_other heaps t u h' ne)
]

pub held_fresh : (heaps : List Heap) (u : ℕ) → held_in (or_fresh (slice_get (heaps ++ fresh ∷ fresh ∷ []) u)) ≡ held_in (or_fresh (slice_get heaps u))
held_fresh [] zero = refl
held_fresh [] (suc zero) = refl
held_fresh [] (suc (suc u)) = refl
held_fresh (h ∷ heaps) zero = refl
held_fresh (h ∷ heaps) (suc u) = held_fresh heaps u

-- what is reachable through these names, if they are held
abbrev within_of : Ledger → ℕ → List Name → List Name → List Name
within_of l u ns hs =
    reached l.machine.store ns
    (registers (frames_of (slice_get l.machine.tasks u)) ++ flat_map (refs_at l.machine.store) (filter (λ n. is_proper_ancestor l.machine.tasks (owner_of l.machine.tasks n.task) u) hs))

-- the same machine and the same names
pub within_same : (l : Ledger) (heaps : List Heap) (u : ℕ) → flat_map held_in heaps ≡ held l → held_in (or_fresh (slice_get heaps u)) ≡ held_in (heap_of l u) → within (record l { heaps = heaps }) u ≡ within l u
within_same l heaps u all own = ap₂ (within_of l u) own all
