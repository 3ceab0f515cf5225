-- Fields that are written one after another into an object.
use Rattle.object_layout.proofs.Common.{◌≡◌, ℕ, ℤ, zero, suc, ◌+◌, ◌<◌, ◌≤◌, Option, List, [], ◌∷◌, ◌++◌, length, take, drop, get_or, slice_set, refl, ap, sym, subst, ◌∙◌, arith, length-append, length-drop, length-take-le, Addr, Cell, IsObject, cell_with_int, with_ints, with_ref, with_refs, with_cell, ChunkValue, IsObjectAt, cell_at, object_at, words_in}
use Rattle.object_layout.proofs.PlaceLemmas as place

-- ---- lists

-- one more field
set_seam : {A : Type 0} (xs ys : List A) (k : ℕ) (v : A) → v ≡ get_or xs k v → k < length xs → k < length ys → slice_set (take k xs ++ drop k ys) k v ≡ take (suc k) xs ++ drop (suc k) ys
set_seam [] ys k v e l lt = absurd (omega arith)
set_seam (x ∷ xs) [] k v e l lt = absurd (omega arith)
set_seam (x ∷ xs) (y ∷ ys) zero v e l lt = ap (λ z. z ∷ ys) e
set_seam (x ∷ xs) (y ∷ ys) (suc k) v e l lt = ap (λ zs. x ∷ zs) (set_seam xs ys k v e (omega arith) (omega arith))

take_none : {A : Type 0} (xs ys : List A) → take 0 xs ++ drop 0 ys ≡ ys
take_none [] ys = refl
take_none (x ∷ xs) ys = refl

take_all : {A : Type 0} (xs ys : List A) (k : ℕ) → k ≡ length xs → k ≡ length ys → take k xs ++ drop k ys ≡ xs
take_all [] [] k e f = rw e refl
take_all [] (y ∷ ys) k e f = absurd (omega arith)
take_all (x ∷ xs) [] k e f = absurd (omega arith)
take_all (x ∷ xs) (y ∷ ys) zero e f = absurd (omega arith)
take_all (x ∷ xs) (y ∷ ys) (suc k) e f = ap (λ zs. x ∷ zs) (take_all xs ys k (omega arith) (omega arith))

-- ---- an object's fields

-- the first fields are these, and the others are unchanged
abbrev pub refs_filled : ChunkValue → ℕ → List (Option Addr) → ℕ → ChunkValue
refs_filled c a refs k = with_cell c a (with_refs (cell_at c.cells a) (take k refs ++ drop k (cell_at c.cells a).refs))

abbrev pub ints_filled : ChunkValue → ℕ → List ℤ → ℕ → ChunkValue
ints_filled c a ints k = with_cell c a (with_ints (cell_at c.cells a) (take k ints ++ drop k (cell_at c.cells a).ints))

module _ (h : ChunkValue) (a : ℕ) (object : IsObjectAt h.cells a) where
  read : (c : Cell) → cell_at (with_cell h a c).cells a ≡ c
  read c = place.cell_at-put_same h.cells a c (place.cell_of_object h.cells a object)

  again : (c d : Cell) → with_cell (with_cell h a c) a d ≡ with_cell h a d
  again c d = ap (λ (cs : List Cell). let r : ChunkValue = record h { cells = cs } in r) (place.put_cell-put_cell h.cells a c d)

  nothing : with_cell h a (cell_at h.cells a) ≡ h
  nothing = ap (λ (cs : List Cell). let r : ChunkValue = record h { cells = cs } in r) (place.put_cell-itself h.cells a)

  pub refs_begun : (xs : List (Option Addr)) → h ≡ refs_filled h a xs 0
  refs_begun xs = sym (ap (λ zs. with_cell h a (with_refs (cell_at h.cells a) zs)) (take_none xs (cell_at h.cells a).refs) ∙ nothing)

  pub refs_more : (xs : List (Option Addr)) (k j : ℕ) (v : Option Addr) → v ≡ get_or xs k v → k < length xs → k < length (cell_at h.cells a).refs → j ≡ k + 1
      → with_cell (refs_filled h a xs k) a (with_ref (cell_at (refs_filled h a xs k).cells a) k v) ≡ refs_filled h a xs j
  refs_more xs k j v e l lt s =
      let c : Cell = with_refs (cell_at h.cells a) (take k xs ++ drop k (cell_at h.cells a).refs) in
      let jk : suc k ≡ j = omega arith in
      ap (λ z. with_cell (with_cell h a c) a (with_ref z k v)) (read c)
      ∙ (again c (with_ref c k v) ∙ (ap (λ zs. with_cell h a (with_refs (cell_at h.cells a) zs)) (set_seam xs (cell_at h.cells a).refs k v e l lt) ∙ ap (refs_filled h a xs) jk))

  pub refs_within : (xs : List (Option Addr)) (k : ℕ) → k ≤ length xs → k < length (cell_at h.cells a).refs → k < length (object_at (refs_filled h a xs k).cells a).refs
  refs_within xs k le lt =
      let c : Cell = with_refs (cell_at h.cells a) (take k xs ++ drop k (cell_at h.cells a).refs) in
      let marked : IsObject (cell_at (with_cell h a c).cells a).mark = subst (λ (z : Cell). IsObject z.mark) (sym (read c)) object in
      let is : object_at (refs_filled h a xs k).cells a ≡ c = place.object_is (with_cell h a c).cells a marked ∙ read c in
      subst (λ (z : Cell). k < length z.refs) (sym is) (omega (arith, length-append (take k xs) (drop k (cell_at h.cells a).refs), length-take-le k xs le, length-drop k (cell_at h.cells a).refs))

  pub refs_done : (xs : List (Option Addr)) (k : ℕ) → k ≡ length xs → length xs ≡ length (cell_at h.cells a).refs → refs_filled h a xs k ≡ with_cell h a (with_refs (cell_at h.cells a) xs)
  refs_done xs k e f = ap (λ zs. with_cell h a (with_refs (cell_at h.cells a) zs)) (take_all xs (cell_at h.cells a).refs k e (e ∙ f))

  pub ints_begun : (xs : List ℤ) → h ≡ ints_filled h a xs 0
  ints_begun xs = sym (ap (λ zs. with_cell h a (with_ints (cell_at h.cells a) zs)) (take_none xs (cell_at h.cells a).ints) ∙ nothing)

  pub ints_more : (xs : List ℤ) (k j : ℕ) (v : ℤ) → v ≡ get_or xs k v → k < length xs → k < length (cell_at h.cells a).ints → j ≡ k + 1
      → with_cell (ints_filled h a xs k) a (cell_with_int (cell_at (ints_filled h a xs k).cells a) k v) ≡ ints_filled h a xs j
  ints_more xs k j v e l lt s =
      let c : Cell = with_ints (cell_at h.cells a) (take k xs ++ drop k (cell_at h.cells a).ints) in
      let jk : suc k ≡ j = omega arith in
      ap (λ z. with_cell (with_cell h a c) a (cell_with_int z k v)) (read c)
      ∙ (again c (cell_with_int c k v) ∙ (ap (λ zs. with_cell h a (with_ints (cell_at h.cells a) zs)) (set_seam xs (cell_at h.cells a).ints k v e l lt) ∙ ap (ints_filled h a xs) jk))

  pub ints_within : (xs : List ℤ) (k : ℕ) → k ≤ length xs → k < length (cell_at h.cells a).ints → k < length (object_at (ints_filled h a xs k).cells a).ints
  ints_within xs k le lt =
      let c : Cell = with_ints (cell_at h.cells a) (take k xs ++ drop k (cell_at h.cells a).ints) in
      let marked : IsObject (cell_at (with_cell h a c).cells a).mark = subst (λ (z : Cell). IsObject z.mark) (sym (read c)) object in
      let is : object_at (ints_filled h a xs k).cells a ≡ c = place.object_is (with_cell h a c).cells a marked ∙ read c in
      subst (λ (z : Cell). k < length z.ints) (sym is) (omega (arith, length-append (take k xs) (drop k (cell_at h.cells a).ints), length-take-le k xs le, length-drop k (cell_at h.cells a).ints))

  pub ints_done : (xs : List ℤ) (k : ℕ) → k ≡ length xs → length xs ≡ length (cell_at h.cells a).ints → ints_filled h a xs k ≡ with_cell h a (with_ints (cell_at h.cells a) xs)
  ints_done xs k e f = ap (λ zs. with_cell h a (with_ints (cell_at h.cells a) zs)) (take_all xs (cell_at h.cells a).ints k e (e ∙ f))

-- ---- the last object

module _ (h : ChunkValue) (a : ℕ) (behind : a ≡ words_in h.cells) where
  pub last_read : (k : ChunkValue) (c : Cell) → k ≡ record h { cells = h.cells ++ c ∷ [] } → cell_at k.cells a ≡ c
  last_read k c e = ap (λ (x : ChunkValue). cell_at x.cells a) e ∙ rw behind (place.cell_at-last h.cells c)

  pub last_filled : (k l : ChunkValue) (c : Cell) (f : Cell → Cell) → k ≡ record h { cells = h.cells ++ c ∷ [] } → l ≡ with_cell k a (f (cell_at k.cells a)) → l ≡ record h { cells = h.cells ++ f c ∷ [] }
  last_filled k l c f e w =
      w
      ∙ (ap (λ (d : Cell). with_cell k a (f d)) (last_read k c e)
      ∙ (ap (λ (x : ChunkValue). with_cell x a (f c)) e
      ∙ rw behind (ap (λ (cs : List Cell). let r : ChunkValue = record h { cells = cs } in r) (place.put_cell-last h.cells c (f c)))))
