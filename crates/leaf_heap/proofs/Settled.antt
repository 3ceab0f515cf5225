-- The invariant of a heap between collections, after an object is written or placed, a chunk added, or heaps merged.
use Rattle.leaf_heap.proofs.Common.{◌≡◌, ℕ, zero, suc, ◌+◌, ◌-◌, ◌*◌, ◌<◌, ◌≤◌, Bool, true, false, cond, List, [], ◌∷◌, ◌++◌, length, get_or, set, refl, sym, ap, ◌∙◌, subst, arith, inl, inr, eqb, Option, Some, None, All, cases_Bool, cases_lt, le-leb, lt-leb, get_or_read, All-append, All-cons, All-get_or, All-head, All-nil, All-push, All-set, All-tail, Addr, Cell, moved_to, no_cell, size_of, ChunkValue, cell_at, put_cell, words_in, cell_of, chunk_at, no_chunk, put_object, with_cell, length-put, place_of-put, All-put_cell, PiecesValue, added, HaveDistinctNumbers, AreTidy, LeafHeapValue, IsFresh, AgreesWithChunks, IsSettled, IsTidy, place_for, units}
use Rattle.leaf_heap.proofs.HeapLemmas as heap
use Rattle.leaf_heap.proofs.PlacedLaws as with_object_placed

-- ---- cells

-- what holds of each cell and of the missing one holds at each offset
pub at_offset : (P : Cell → Type 0) (cs : List Cell) (at : ℕ) → P no_cell → All P cs → P (cell_at cs at)
at_offset P [] at z a = z
at_offset P (c ∷ cs) zero z a = All-head P c cs a
at_offset P (c ∷ cs) (suc n) z a =
    elim (cases_lt (suc n) (size_of c)) [
      | inl above ↦ rw (lt-leb (size_of c) (suc n) above) z
      | inr within ↦ rw (le-leb (size_of c) (suc n) within) (at_offset P cs (suc n - size_of c) z (All-tail P c cs a))
    ]

either : (P : Cell → Type 0) (b : Bool) (xs ys : List Cell) → All P xs → All P ys → All P (cond b xs ys)
either P true xs ys a b = a
either P false xs ys a b = b

put_length : (cs : List Cell) (at : ℕ) (d : Cell) → length (put_cell cs at d) ≡ length cs
put_length [] at d = refl
put_length (c ∷ cs) zero d = refl
put_length (c ∷ cs) (suc n) d =
    elim (cases_lt (suc n) (size_of c)) [
      | inl above ↦ rw (lt-leb (size_of c) (suc n) above) refl
      | inr within ↦ rw (le-leb (size_of c) (suc n) within) (ap (λ (m : ℕ). suc m) (put_length cs (suc n - size_of c) d))
    ]

-- ---- an object is written

put_tidy : (k : ChunkValue) (at : ℕ) (d : Cell) → IsTidy k → moved_to d.mark ≡ None → size_of d ≡ size_of (cell_at k.cells at) → IsTidy (with_cell k at d)
put_tidy k at d t m s = record {
  unmoved = All-put_cell (λ (c : Cell). moved_to c.mark ≡ None) k.cells at d m t.unmoved;
  alone =
      let P : Cell → Type 0 = λ (c : Cell). 1024 < size_of c → length k.cells ≡ 1 in
      let here : P d = subst (λ (n : ℕ). 1024 < n → length k.cells ≡ 1) (sym s) (at_offset P k.cells at (λ l. absurd (omega arith)) t.alone) in
      subst (λ (n : ℕ). All (λ (c : Cell). 1024 < size_of c → n ≡ 1) (put_cell k.cells at d)) (sym (put_length k.cells at d)) (All-put_cell P k.cells at d here t.alone);
  exact =
      let P : Cell → Type 0 = λ (c : Cell). 1024 < size_of c → k.size ≡ 1024 * units (size_of c) in
      let here : P d = subst (λ (n : ℕ). 1024 < n → k.size ≡ 1024 * units n) (sym s) (at_offset P k.cells at (λ l. absurd (omega arith)) t.exact) in
      All-put_cell P k.cells at d here t.exact;
  few = λ l. subst (λ (n : ℕ). n ≤ 1) (sym (put_length k.cells at d)) (t.few l);
}

put_all_tidy : (ks : List ChunkValue) (a : Addr) (d : Cell) → AreTidy ks → moved_to d.mark ≡ None → size_of d ≡ size_of (cell_of ks a) → AreTidy (put_object ks a d)
put_all_tidy [] a d t m s = t
put_all_tidy (k ∷ ks) a d t m s =
    elim (cases_Bool (eqb k.number a.chunk)) [
      | inl e ↦ let here = rw e at s in rw e (All-cons IsTidy (with_cell k a.offset d) ks (put_tidy k a.offset d (All-head IsTidy k ks t) m here) (All-tail IsTidy k ks t))
      | inr e ↦ let here = rw e at s in rw e (All-cons IsTidy k (put_object ks a d) (All-head IsTidy k ks t) (put_all_tidy ks a d (All-tail IsTidy k ks t) m here))
    ]

pub put_apart : (ks : List ChunkValue) (a : Addr) (d : Cell) → HaveDistinctNumbers ks → HaveDistinctNumbers (put_object ks a d)
put_apart [] a d h = h
put_apart (k ∷ ks) a d h =
    elim (cases_Bool (eqb k.number a.chunk)) [
      | inl e ↦ rw e h
      | inr e ↦ rw e (rw (place_of-put ks a d k.number, length-put ks a d) h.0, put_apart ks a d h.1)
    ]

pub unmoved_at : (ks : List ChunkValue) (a : Addr) → AreTidy ks → moved_to (cell_of ks a).mark ≡ None
unmoved_at [] a t = refl
unmoved_at (k ∷ ks) a t =
    elim (cases_Bool (eqb k.number a.chunk)) [
      | inl e ↦ rw e (at_offset (λ (c : Cell). moved_to c.mark ≡ None) k.cells a.offset refl (All-head IsTidy k ks t).unmoved)
      | inr e ↦ rw e (unmoved_at ks a (All-tail IsTidy k ks t))
    ]

pub settled_put : (ks : List ChunkValue) (a : Addr) (d : Cell) → IsSettled ks → d.mark ≡ (cell_of ks a).mark → size_of d ≡ size_of (cell_of ks a) → IsSettled (put_object ks a d)
settled_put ks a d h m s = record {
  tidy = put_all_tidy ks a d h.tidy (ap moved_to m ∙ unmoved_at ks a h.tidy) s;
  apart = put_apart ks a d h.apart;
}

-- ---- chunks are added

tidy_empty : (k : ChunkValue) → k.cells ≡ [] → IsTidy k
tidy_empty k e = record {
  unmoved = subst (λ (cs : List Cell). All (λ (c : Cell). moved_to c.mark ≡ None) cs) (sym e) (All-nil (λ (c : Cell). moved_to c.mark ≡ None));
  alone = subst (λ (cs : List Cell). All (λ (c : Cell). 1024 < size_of c → length k.cells ≡ 1) cs) (sym e) (All-nil (λ (c : Cell). 1024 < size_of c → length k.cells ≡ 1));
  exact = subst (λ (cs : List Cell). All (λ (c : Cell). 1024 < size_of c → k.size ≡ 1024 * units (size_of c)) cs) (sym e) (All-nil (λ (c : Cell). 1024 < size_of c → k.size ≡ 1024 * units (size_of c)));
  few = λ l. let n : length k.cells ≡ 0 = ap (λ (cs : List Cell). length cs) e in omega arith;
}

added_chunks : (h : LeafHeapValue) (k : ChunkValue) → (added h k).chunks ≡ h.chunks ++ k ∷ []
added_chunks h k =
    elim (cases_Bool (eqb k.size 1024)) [
      | inl e ↦ rw e refl
      | inr e ↦ rw e refl
    ]

pub settled_added : (h : LeafHeapValue) (k : ChunkValue) → IsSettled h.chunks → k.cells ≡ [] → IsFresh h.chunks k.number → IsSettled (added h k).chunks
settled_added h k s e f = subst IsSettled (sym (added_chunks h k)) (record {
  tidy = All-push IsTidy h.chunks k s.tidy (tidy_empty k e);
  apart = with_object_placed.apart_added h.chunks k s.apart f;
})

pub settled_merged : (ls rs ks : List ChunkValue) → IsSettled ls → IsSettled rs → IsSettled ks → HaveDistinctNumbers (ls ++ (rs ++ ks)) → IsSettled (ls ++ (rs ++ ks))
settled_merged ls rs ks l r k apart = record {
  tidy = All-append IsTidy ls (rs ++ ks) l.tidy (All-append IsTidy rs ks r.tidy k.tidy);
  apart = apart;
}

-- ---- an object is placed

size_within : (cs : List Cell) (n : ℕ) → words_in cs ≤ n → All (λ (c : Cell). size_of c ≤ n) cs
size_within [] n l = All-nil (λ (c : Cell). size_of c ≤ n)
size_within (c ∷ cs) n l = All-cons (λ (d : Cell). size_of d ≤ n) c cs (omega arith) (size_within cs n (omega arith))

module _ (h : LeafHeapValue) (pieces : PiecesValue) (count many part base : ℕ) (place : ℕ → Option ℕ) (entries : ℕ) (keeps : AgreesWithChunks h.chunks pieces h.current h.reserved count many part base place entries) (i : ℕ) (c : Cell)
    (fits : place_for h (size_of c) ≡ Some i) (unmoved : moved_to c.mark ≡ None) where
  some : 0 < size_of c
  some = omega arith

  inside : i < length h.chunks
  inside = heap.fits_in h pieces count many part base place entries keeps (size_of c) i fits some

  room : words_in (chunk_at h.chunks i).cells + size_of c ≤ (chunk_at h.chunks i).size
  room = heap.fits_room h pieces count many part base place entries keeps (size_of c) i fits some

  abbrev Alone : Cell → Type 0
  Alone d = 1024 < size_of d → length ((chunk_at h.chunks i).cells ++ c ∷ []) ≡ 1

  small_alone : (cs : List Cell) → All (λ (d : Cell). size_of d ≤ 1024) cs → All Alone cs
  small_alone [] a = All-nil Alone
  small_alone (d ∷ ds) a = All-cons Alone d ds (λ l. let m : size_of d ≤ 1024 = All-head (λ (d : Cell). size_of d ≤ 1024) d ds a in absurd (omega arith)) (small_alone ds (All-tail (λ (d : Cell). size_of d ≤ 1024) d ds a))

  all_alone : All Alone ((chunk_at h.chunks i).cells ++ c ∷ [])
  all_alone =
      elim (cases_lt 1024 (size_of c)) [
        | inl l ↦
            let none : (chunk_at h.chunks i).cells ≡ [] = (heap.reserved_in h pieces count many part base place entries keeps i (heap.fits_large h (size_of c) i fits l).0).1.1 in
            let one : length ((chunk_at h.chunks i).cells ++ c ∷ []) ≡ 1 = ap (λ (cs : List Cell). length (cs ++ c ∷ [])) none in
            All-push Alone (chunk_at h.chunks i).cells c (subst (λ (cs : List Cell). All Alone cs) (sym none) (All-nil Alone)) (λ b. one)
        | inr l ↦
            let size : (chunk_at h.chunks i).size ≡ 1024 = (heap.current_in h pieces count many part base place entries keeps i (heap.fits_small h (size_of c) i fits l).0).1 in
            let r : words_in (chunk_at h.chunks i).cells + size_of c ≤ (chunk_at h.chunks i).size = room in
            All-push Alone (chunk_at h.chunks i).cells c (small_alone (chunk_at h.chunks i).cells (size_within (chunk_at h.chunks i).cells 1024 (omega arith))) (λ b. absurd (omega arith))
      ]

  abbrev Exact : Cell → Type 0
  Exact d = 1024 < size_of d → (chunk_at h.chunks i).size ≡ 1024 * units (size_of d)

  few_by : 1024 < (chunk_at h.chunks i).size → length ((chunk_at h.chunks i).cells ++ c ∷ []) ≤ 1
  few_by big =
      elim (cases_lt 1024 (size_of c)) [
        | inl l ↦
            let none : (chunk_at h.chunks i).cells ≡ [] = (heap.reserved_in h pieces count many part base place entries keeps i (heap.fits_large h (size_of c) i fits l).0).1.1 in
            let one : length ((chunk_at h.chunks i).cells ++ c ∷ []) ≡ 1 = ap (λ (cs : List Cell). length (cs ++ c ∷ [])) none in
            omega arith
        | inr l ↦
            let size : (chunk_at h.chunks i).size ≡ 1024 = (heap.current_in h pieces count many part base place entries keeps i (heap.fits_small h (size_of c) i fits l).0).1 in
            absurd (omega arith)
      ]

  near_at : words_in (chunk_at h.chunks i).cells < 1024
  near_at =
      elim (cases_lt 1024 (size_of c)) [
        | inl l ↦
            let none : (chunk_at h.chunks i).cells ≡ [] = (heap.reserved_in h pieces count many part base place entries keeps i (heap.fits_large h (size_of c) i fits l).0).1.1 in
            let zero : words_in (chunk_at h.chunks i).cells ≡ 0 = ap words_in none in
            omega arith
        | inr l ↦
            let size : (chunk_at h.chunks i).size ≡ 1024 = (heap.current_in h pieces count many part base place entries keeps i (heap.fits_small h (size_of c) i fits l).0).1 in
            let r : words_in (chunk_at h.chunks i).cells + size_of c ≤ (chunk_at h.chunks i).size = room in
            let s : 0 < size_of c = some in
            omega arith
      ]

  -- it begins within the first 1,024 words
  pub placed_near : (k : ChunkValue) → k ≡ get_or h.chunks i k → words_in k.cells < 1024
  placed_near k read = subst (λ (x : ChunkValue). words_in x.cells < 1024) (sym (get_or_read h.chunks i k inside read no_chunk)) near_at

  pub settled_placed : (k : ChunkValue) → k ≡ get_or h.chunks i k → IsSettled h.chunks → IsSettled (set h.chunks i (record k { cells = k.cells ++ c ∷ [] }))
  settled_placed k read s =
      let same : k ≡ chunk_at h.chunks i = get_or_read h.chunks i k inside read no_chunk in
      let t : IsTidy (chunk_at h.chunks i) = All-get_or IsTidy h.chunks i no_chunk inside s.tidy in
      let tidy : IsTidy (record (chunk_at h.chunks i) { cells = (chunk_at h.chunks i).cells ++ c ∷ [] }) = record {
        unmoved = All-push (λ (d : Cell). moved_to d.mark ≡ None) (chunk_at h.chunks i).cells c t.unmoved unmoved;
        alone = all_alone;
        exact = All-push Exact (chunk_at h.chunks i).cells c t.exact (λ l. (heap.fits_large h (size_of c) i fits l).1);
        few = few_by;
      } in
      subst (λ (x : ChunkValue). IsSettled (set h.chunks i (record x { cells = x.cells ++ c ∷ [] }))) (sym same)
      (record {
        tidy = All-set IsTidy h.chunks i (record (chunk_at h.chunks i) { cells = (chunk_at h.chunks i).cells ++ c ∷ [] }) tidy s.tidy;
        apart = with_object_placed.apart_set h.chunks i (record (chunk_at h.chunks i) { cells = (chunk_at h.chunks i).cells ++ c ∷ [] }) refl s.apart;
      })
