-- Chunks with the same numbers, sizes and objects are equal.
use Rattle.address_laws.proofs.Common.{◌≡◌, ℕ, suc, ◌+◌, List, [], ◌∷◌, ◌++◌, map, refl, sym, ap, ◌∙◌, subst, arith, inl, inr, ◌⊎◌, eqb, eqb-true, eq-eqb, nat_le, cases_Bool, cases_eq, Addr, Cell, no_cell, size_of, ChunkValue, cell_at, cell_of, In, cell_at-past, HaveSameShape}
use Rattle.address_laws.proofs.Numbers.{numbers, Distinct, alike_numbers}

cells_same : (cs ds : List Cell) → map size_of ds ≡ map size_of cs → ((at : ℕ) → cell_at cs at ≡ cell_at ds at) → cs ≡ ds
cells_same [] [] s e = refl
cells_same [] (d ∷ ds) s e = absurd cc
cells_same (c ∷ cs) [] s e = absurd cc
cells_same (c ∷ cs) (d ∷ ds) s e =
    let head : c ≡ d = e 0 in
    let size : size_of d ≡ size_of c = ap size_of (sym head) in
    let rest : map size_of ds ≡ map size_of cs = cc in
    λ i. head i ∷ cells_same cs ds rest (λ at. sym (cell_at-past c cs at (size_of c + at) refl) ∙ (e (size_of c + at) ∙ cell_at-past d ds at (size_of c + at) (omega arith))) i

same_content : (k l : ChunkValue) → l.number ≡ k.number → l.size ≡ k.size → k.cells ≡ l.cells → k ≡ l
same_content k l n s e = λ i. record { number = sym n i; size = sym s i; cells = e i }

-- no chunk has the number
pub nowhere : (ks : List ChunkValue) (a : Addr) → (In (numbers ks) a.chunk → ⊥) → cell_of ks a ≡ no_cell
nowhere [] a n = refl
nowhere (k ∷ ks) a n =
    elim (cases_Bool (eqb k.number a.chunk)) [
      | inl e ↦ absurd (n (inl (eqb-true k.number a.chunk e)))
      | inr e ↦ rw e (nowhere ks a (λ i. n (inr i)))
    ]

pub cell_in_first : (k : ChunkValue) (ks : List ChunkValue) (a : Addr) → k.number ≡ a.chunk → cell_of (k ∷ ks) a ≡ cell_at k.cells a.offset
cell_in_first k ks a e = rw (eq-eqb k.number a.chunk e) refl

pub later : (k : ChunkValue) (ks : List ChunkValue) (a : Addr) → (k.number ≡ a.chunk → ⊥) → cell_of (k ∷ ks) a ≡ cell_of ks a
later k ks a n =
    elim (cases_Bool (eqb k.number a.chunk)) [
      | inl e ↦ absurd (n (eqb-true k.number a.chunk e))
      | inr e ↦ rw e refl
    ]

pub in_numbers : (ns : List ℕ) (n : ℕ) → In ns n ⊎ (In ns n → ⊥)
in_numbers [] n = inr (λ i. i)
in_numbers (m ∷ ns) n = elim (cases_eq m n) [
  | inl e ↦ inl (inl e)
  | inr ne ↦ elim (in_numbers ns n) [ inl i ↦ inl (inr i) | inr m' ↦ inr (λ i. elim i [ inl e ↦ ne e | inr j ↦ m' j ]) ]
]

pub same_chunks : (ks ls : List ChunkValue) → HaveSameShape ks ls → Distinct (numbers ks) → ((a : Addr) → cell_of ks a ≡ cell_of ls a) → ks ≡ ls
same_chunks [] [] a d e = refl
same_chunks [] (l ∷ ls) a d e = absurd a
same_chunks (k ∷ ks) [] a d e = absurd a
same_chunks (k ∷ ks) (l ∷ ls) a d e =
    let cells : k.cells ≡ l.cells = cells_same k.cells l.cells a.0.2 (λ at. let x : Addr = record { chunk = k.number; offset = at } in sym (cell_in_first k ks x refl) ∙ (e x ∙ cell_in_first l ls x a.0.0)) in
    let head : k ≡ l = same_content k l a.0.0 a.0.1 cells in
    λ i. head i ∷ same_chunks ks ls a.1 d.1 (rest) i
  where
    rest : (x : Addr) → cell_of ks x ≡ cell_of ls x
    rest x =
        elim (cases_eq k.number x.chunk) [
          | inl q ↦
              let out : In (numbers ks) x.chunk → ⊥ = λ i. d.0 (subst (In (numbers ks)) (sym q) i) in
              nowhere ks x out ∙ sym (nowhere ls x (λ i. out (subst (λ (ns : List ℕ). In ns x.chunk) (alike_numbers ks ls a.1) i)))
          | inr n ↦ sym (later k ks x n) ∙ (e x ∙ later l ls x (λ q. n (sym a.0.0 ∙ q)))
        ]

-- ---- lists together

pub in_first : (ks ls : List ChunkValue) (a : Addr) → In (numbers ks) a.chunk → cell_of (ks ++ ls) a ≡ cell_of ks a
in_first [] ls a i = absurd i
in_first (k ∷ ks) ls a i =
    elim (cases_eq k.number a.chunk) [
      | inl e ↦ cell_in_first k (ks ++ ls) a e ∙ sym (cell_in_first k ks a e)
      | inr n ↦ later k (ks ++ ls) a n ∙ (in_first ks ls a (elim i [ inl e ↦ absurd (n e) | inr j ↦ j ]) ∙ sym (later k ks a n))
    ]

pub in_second : (ks ls : List ChunkValue) (a : Addr) → (In (numbers ks) a.chunk → ⊥) → cell_of (ks ++ ls) a ≡ cell_of ls a
in_second [] ls a n = refl
in_second (k ∷ ks) ls a n = later k (ks ++ ls) a (λ e. n (inl e)) ∙ in_second ks ls a (λ i. n (inr i))

pub number_there : (ks : List ChunkValue) (k : ChunkValue) → In ks k → In (numbers ks) k.number
number_there [] k i = i
number_there (x ∷ ks) k (inl e) = inl (ap (λ (z : ChunkValue). z.number) e)
number_there (x ∷ ks) k (inr i) = inr (number_there ks k i)

-- it is what addresses lead to, after any map of the chunks
pub mapped_there : (f : ChunkValue → ChunkValue) → ((k : ChunkValue) → (f k).number ≡ k.number) → (ks : List ChunkValue) (k : ChunkValue) → Distinct (numbers ks) → In ks k → (a : Addr) → k.number ≡ a.chunk → cell_of (map f ks) a ≡ cell_at (f k).cells a.offset
mapped_there f e [] k d i a q = absurd i
mapped_there f e (x ∷ ks) k d (inl p) a q = subst (λ (z : ChunkValue). cell_of (map f (x ∷ ks)) a ≡ cell_at (f z).cells a.offset) p (cell_in_first (f x) (map f ks) a (e x ∙ (ap (λ (z : ChunkValue). z.number) p ∙ q)))
mapped_there f e (x ∷ ks) k d (inr i) a q =
    later (f x) (map f ks) a (λ p. d.0 (subst (In (numbers ks)) (q ∙ sym (sym (e x) ∙ p)) (number_there ks k i)))
    ∙ mapped_there f e ks k d.1 i a q

pub chunk_there : (ks : List ChunkValue) (k : ChunkValue) → Distinct (numbers ks) → In ks k → (a : Addr) → k.number ≡ a.chunk → cell_of ks a ≡ cell_at k.cells a.offset
chunk_there [] k d i a q = absurd i
chunk_there (x ∷ ks) k d (inl p) a q = subst (λ (z : ChunkValue). cell_of (x ∷ ks) a ≡ cell_at z.cells a.offset) p (cell_in_first x ks a (ap (λ (z : ChunkValue). z.number) p ∙ q))
chunk_there (x ∷ ks) k d (inr i) a q =
    later x ks a (λ p. d.0 (subst (In (numbers ks)) (q ∙ sym p) (number_there ks k i)))
    ∙ chunk_there ks k d.1 i a q

pub alone_cell : (c : Cell) (n : ℕ) → cell_at (c ∷ []) (suc n) ≡ no_cell
alone_cell c n =
    elim (cases_Bool (nat_le (size_of c) (suc n))) [
      | inl e ↦ rw e refl
      | inr e ↦ rw e refl
    ]
