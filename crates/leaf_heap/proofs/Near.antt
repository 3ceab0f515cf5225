-- Where objects begin in the chunks of a heap.
use Rattle.leaf_heap.proofs.Common.{◌≡◌, ℕ, zero, suc, ◌+◌, ◌<◌, ◌≤◌, List, [], ◌∷◌, length, refl, sym, subst, arith, inl, inr, eqb, All, cases_Bool, cases_lt, All-cons, All-head, All-nil, All-tail, In, Cell, size_of, ChunkValue, cell_at, words_in, IsCellAt, Located, AllBeginInFirstUnit, AreTidy, CellsFitInChunks, IsTidy}
use Rattle.object_layout.proofs.PlaceLemmas as place

-- the only cell begins at 0
only_first : (cs : List Cell) (at : ℕ) → length cs ≤ 1 → IsCellAt cs at → at ≡ 0
only_first [] at l h = absurd h
only_first (c ∷ cs) zero l h = refl
only_first (c ∷ []) (suc n) l h = absurd h.1
only_first (c ∷ (d ∷ cs)) (suc n) l h = absurd (omega arith)

near_in : (k : ChunkValue) (at : ℕ) → IsTidy k → words_in k.cells ≤ k.size → IsCellAt k.cells at → at < 1024
near_in k at t w h =
    elim (cases_lt 1024 k.size) [
      | inl big ↦ let z : at ≡ 0 = only_first k.cells at (t.few big) h in omega arith
      | inr small ↦ let e : at + size_of (cell_at k.cells at) ≤ words_in k.cells = place.cell_ends k.cells at h in omega arith
    ]

pub are_near : (ks : List ChunkValue) → AreTidy ks → CellsFitInChunks ks → AllBeginInFirstUnit ks
are_near [] t w = λ a o. absurd o
are_near (k ∷ ks) t w = λ a o.
    elim (cases_Bool (eqb k.number a.chunk)) [
      | inl e ↦
          let there = rw e at o in
          near_in k a.offset (All-head IsTidy k ks t) (All-head (λ (x : ChunkValue). words_in x.cells ≤ x.size) k ks w) (place.cell_of_object k.cells a.offset there)
      | inr e ↦ are_near ks (All-tail IsTidy k ks t) (All-tail (λ (x : ChunkValue). words_in x.cells ≤ x.size) k ks w) a (rw e at o)
    ]

all_from : (os : List Located) → ((o : Located) → In os o → o.at.offset < 1024) → All (λ (o : Located). o.at.offset < 1024) os
all_from [] f = All-nil (λ (o : Located). o.at.offset < 1024)
all_from (o ∷ os) f = All-cons (λ (x : Located). x.at.offset < 1024) o os (f o (inl refl)) (all_from os (λ x i. f x (inr i)))
