-- These chunks are enough.
use Rattle.copying_gc.proofs.Common.{eqb, ◌≡◌, ℕ, zero, suc, ◌+◌, ◌-◌, ◌*◌, ◌<◌, ◌≤◌, true, List, [], ◌∷◌, ◌++◌, length, refl, sym, ap, ◌∙◌, subst, arith, inl, inr, nat_le, cases_lt, cases_Bool, lt-ltb, le-ltb, le-leb, lt-leb, length_push, Addr, Cell, Mark, Born, Moved, Hole, IsBorn, size_of, with_mark, ChunkValue, cell_at, put_cell, words_in, cell_of, put_object, HasObjectAt, Once, In, contains_from_in, Filled, filled_more, filled_next, found_in, Laying, room_in, placed_behind, next_place, laid_one, open_next, ObjectFits, HaveRoom, AreNew, is_moved, small_size, small_in}
use Rattle.object_layout.proofs.PlaceLemmas as place
use Rattle.copying_gc.specs.Laid.{small_words}
use Rattle.copying_gc.proofs.FoundLemmas as marks

-- how many words these objects take
abbrev pub sizes : List ChunkValue → List Addr → ℕ
sizes h [] = 0
sizes h (a ∷ xs) = size_of (cell_of h a) + sizes h xs

room_push : (ks : List ChunkValue) (k : ChunkValue) → room_in (ks ++ k ∷ []) ≡ k.size - words_in k.cells
room_push [] k = refl
room_push (x ∷ []) k = refl
room_push (x ∷ (z ∷ ks)) k = room_push (z ∷ ks) k

place_push : (ks : List ChunkValue) (k : ChunkValue) → (next_place (ks ++ k ∷ [])).offset ≡ words_in k.cells
place_push [] k = refl
place_push (x ∷ []) k = refl
place_push (x ∷ (z ∷ ks)) k = place_push (z ∷ ks) k

room_placed : (ks : List ChunkValue) (c : Cell) → room_in (placed_behind ks c) ≡ room_in ks - size_of c
room_placed [] c = omega arith
room_placed (k ∷ []) c = let e = place.words_in-push k.cells c in omega arith
room_placed (k ∷ (l ∷ [])) c = room_placed (l ∷ []) c
room_placed (k ∷ (l ∷ (m ∷ ks))) c = room_placed (l ∷ (m ∷ ks)) c

place_placed : (ks : List ChunkValue) (c : Cell) → 0 < length ks → (next_place (placed_behind ks c)).offset ≡ (next_place ks).offset + size_of c
place_placed [] c l = absurd (omega arith)
place_placed (k ∷ []) c l = place.words_in-push k.cells c
place_placed (k ∷ (x ∷ [])) c l = place_placed (x ∷ []) c (omega arith)
place_placed (k ∷ (x ∷ (m ∷ ks))) c l = place_placed (x ∷ (m ∷ ks)) c (omega arith)

pub length_placed : (ks : List ChunkValue) (c : Cell) → length (placed_behind ks c) ≡ length ks
length_placed [] c = refl
length_placed (k ∷ []) c = refl
length_placed (k ∷ (l ∷ ks)) c = let ih = length_placed (l ∷ ks) c in omega arith

-- the last chunk has 1,024 words
abbrev pub Whole : List ChunkValue → Type 0
Whole ks = (0 < length ks → room_in ks + (next_place ks).offset ≡ 1024) × (length ks ≡ 0 → room_in ks ≡ 0)

-- a chunk is left when one more is needed
some_left : (k u c t n s : ℕ) → Filled k u t → (0 < k → 1024 < u + c) → 0 < c → t + c ≤ 1024 * n → 2 * n ≤ k + s + 1 → 0 < s
some_left k u c t n s f over pos most enough = elim f.1 [
  | inl p ↦ let a : k ≡ 2 * f.0 = p.0 in let q : 1025 * f.0 ≤ t = p.1 in omega arith
  | inr p ↦ let a : k ≡ 2 * f.0 + 1 = p.0 in let q : 1025 * f.0 + u ≤ t = p.1 in let o = over (omega arith) in omega arith
]

module _ (h : List ChunkValue) (n : ℕ) where
  record Going (y : Laying) (t left : ℕ) : Type 0 where
    whole : Whole y.laid
    fresh : AreNew y.spare
    filled : Filled (length y.laid) (next_place y.laid).offset t
    most : t + left ≤ 1024 * n
    enough : 2 * n ≤ length y.laid + length y.spare + 1

  fits_here : (y : Laying) (c : Cell) (t left : ℕ) → Going y t (size_of c + left) → size_of c ≤ room_in y.laid
      → ((size_of c ≤ room_in y.laid) × ((next_place y.laid).offset < 1024)) × Going (record { laid = placed_behind y.laid c; spare = y.spare }) (t + size_of c) left
  fits_here y c t left g f =
      let some : 0 < length y.laid = elim (cases_lt 0 (length y.laid)) [ inl l ↦ l | inr z ↦ let e = g.whole.1 (omega arith) in absurd (omega arith) ] in
      let w = g.whole.0 some in
      let len = length_placed y.laid c in
      let r = room_placed y.laid c in
      let p = place_placed y.laid c some in
      let m : t + (size_of c + left) ≤ 1024 * n = g.most in
      let q : 2 * n ≤ length y.laid + length y.spare + 1 = g.enough in (
        (f, omega arith),
        record {
          whole = ((λ _. omega arith), (λ z. absurd (omega arith)));
          fresh = g.fresh;
          filled = rw (len, p) (filled_more (length y.laid) (next_place y.laid).offset (size_of c) t g.filled);
          most = omega arith;
          enough = omega arith;
        },
      )

  fits_next : (y : Laying) (k : ChunkValue) (ks : List ChunkValue) (c : Cell) (t left : ℕ) → Going (record { laid = y.laid; spare = k ∷ ks }) t (size_of c + left) → room_in y.laid < size_of c → size_of c ≤ 1024
      → ((size_of c ≤ room_in (y.laid ++ k ∷ [])) × ((next_place (y.laid ++ k ∷ [])).offset < 1024)) × Going (record { laid = placed_behind (y.laid ++ k ∷ []) c; spare = ks }) (t + size_of c) left
  fits_next y k ks c t left g over small =
      let len = length_placed (y.laid ++ k ∷ []) c in
      let len' = length_push y.laid k in
      let some : 0 < length (y.laid ++ k ∷ []) = omega arith in
      let r = room_placed (y.laid ++ k ∷ []) c in
      let r' = room_push y.laid k in
      let p = place_placed (y.laid ++ k ∷ []) c some in
      let p' = place_push y.laid k in
      let size : k.size ≡ 1024 = g.fresh.0.1 in
      let none = ap words_in g.fresh.0.0 in
      let u : (next_place (placed_behind (y.laid ++ k ∷ []) c)).offset ≡ size_of c = omega arith in
      let l : length (placed_behind (y.laid ++ k ∷ []) c) ≡ length y.laid + 1 = omega arith in
      let m : t + (size_of c + left) ≤ 1024 * n = g.most in
      let q : 2 * n ≤ length y.laid + suc (length ks) + 1 = g.enough in (
        (omega arith, omega arith),
        record {
          whole = ((λ _. omega arith), (λ z. absurd (omega arith)));
          fresh = g.fresh.1;
          filled = rw (l, u) (filled_next (length y.laid) (next_place y.laid).offset (size_of c) t g.filled (λ z. let w = g.whole.0 z in omega arith));
          most = omega arith;
          enough = omega arith;
        },
      )

  spare_left : (y : Laying) (c : Cell) (t left : ℕ) → Going y t (size_of c + left) → room_in y.laid < size_of c → 0 < length y.spare
  spare_left y c t left g over =
      let m : t + (size_of c + left) ≤ 1024 * n = g.most in
      let q : 2 * n ≤ length y.laid + length y.spare + 1 = g.enough in
      some_left (length y.laid) (next_place y.laid).offset (size_of c) t n (length y.spare) g.filled (λ z. let w = g.whole.0 z in omega arith) (omega arith) (omega arith) q

  fits_opened : (laid spare : List ChunkValue) (c : Cell) (t left : ℕ) → Going (record { laid = laid; spare = spare }) t (size_of c + left) → room_in laid < size_of c → size_of c ≤ 1024
      → ((size_of c ≤ room_in (open_next laid spare).laid) × ((next_place (open_next laid spare).laid).offset < 1024)) × Going (record { laid = placed_behind (open_next laid spare).laid c; spare = (open_next laid spare).spare }) (t + size_of c) left
  fits_opened laid [] c t left g over small = absurd (let z = spare_left (record { laid = laid; spare = [] }) c t left g over in omega arith)
  fits_opened laid (k ∷ ks) c t left g over small = fits_next (record { laid = laid; spare = k ∷ ks }) k ks c t left g over small

  fits_one : (y : Laying) (c : Cell) (t left : ℕ) → Going y t (size_of c + left) → size_of c ≤ 1024 → ObjectFits y (size_of c) × Going (laid_one y c) (t + size_of c) left
  fits_one y c t left g small =
      elim (cases_lt (room_in y.laid) (size_of c)) [
        | inl over ↦ rw (lt-ltb (room_in y.laid) (size_of c) over) (fits_opened y.laid y.spare c t left g over small)
        | inr fits ↦ rw (le-ltb (room_in y.laid) (size_of c) fits) (fits_here y c t left g fits)
      ]

  fit_all : (y : Laying) (xs : List Addr) (t : ℕ) → Going y t (sizes h xs) → ((a : Addr) → In xs a → size_of (cell_of h a) ≤ 1024) → HaveRoom y h xs
  fit_all y [] t g small = tt
  fit_all y (a ∷ xs) t g small =
      let s = fits_one y (cell_of h a) t (sizes h xs) g (small a (inl refl)) in
      (s.0, fit_all (laid_one y (cell_of h a)) xs (t + size_of (cell_of h a)) s.1 (λ b i. small b (inr i)))

  -- 2 n - 1 chunks are enough for n times 1,024 words
  pub enough_room : (spare : List ChunkValue) (xs : List Addr) → AreNew spare → sizes h xs ≤ 1024 * n → 2 * n ≤ length spare + 1 → ((a : Addr) → In xs a → size_of (cell_of h a) ≤ 1024)
      → HaveRoom (record { laid = []; spare = spare }) h xs
  enough_room spare xs fresh most enough small =
      fit_all (record { laid = []; spare = spare }) xs 0 (record {
        whole = ((λ z. absurd (omega arith)), (λ _. refl));
        fresh = fresh;
        filled = (0, inl (refl, omega arith));
        most = omega arith;
        enough = omega arith;
      }) small

-- ---- the words of different objects

small_born : (m : Mark) (n : ℕ) → IsBorn m → nat_le n 1024 ≡ true → small_size m n ≡ n
small_born (Born b) n l s = rw s refl
small_born (Moved to) n l s = absurd l
small_born Hole n l s = absurd l

words_cells : (cs : List Cell) (at : ℕ) (to : Addr) → IsBorn (cell_at cs at).mark → nat_le (size_of (cell_at cs at)) 1024 ≡ true →
    small_in cs ≡ small_in (put_cell cs at (with_mark (cell_at cs at) (Moved to))) + size_of (cell_at cs at)
words_cells [] at to l s = absurd l
words_cells (c ∷ cs) zero to l s = let e = small_born c.mark (size_of c) l s in omega arith
words_cells (c ∷ cs) (suc n) to l s =
    elim (cases_lt (suc n) (size_of c)) [
      | inl above ↦ let m = rw (lt-leb (size_of c) (suc n) above) at l in absurd m
      | inr within ↦
          let t = le-leb (size_of c) (suc n) within in
          let ih = words_cells cs (suc n - size_of c) to (rw t at l) (rw t at s) in
          rw t (omega arith)
    ]

words_found : (h : List ChunkValue) (a to : Addr) → HasObjectAt h a → is_moved h a ≡ true → small_words h ≡ small_words (put_object h a (with_mark (cell_of h a) (Moved to))) + size_of (cell_of h a)
words_found [] a to l s = absurd l
words_found (k ∷ ks) a to l s =
    elim (cases_Bool (eqb k.number a.chunk)) [
      | inl e ↦ let ih = words_cells k.cells a.offset to (rw e at l) (rw e at s) in rw e (omega arith)
      | inr e ↦ let ih = words_found ks a to (rw e at l) (rw e at s) in rw e (omega arith)
    ]

sizes_found : (h : List ChunkValue) (a : Addr) (xs : List Addr) → (In xs a → ⊥) → sizes (found_in h a) xs ≡ sizes h xs
sizes_found h a [] n = refl
sizes_found h a (x ∷ xs) n =
    let e = ap size_of (marks.found_other h a x (λ e. n (inl (sym e)))) in
    let ih = sizes_found h a xs (λ i. n (inr i)) in
    omega arith

-- the words of distinct small objects of a heap are no more than those of all its small objects
pub sizes_most : (h : List ChunkValue) (xs : List Addr) → Once xs → ((a : Addr) → In xs a → HasObjectAt h a × (is_moved h a ≡ true)) → sizes h xs ≤ small_words h
sizes_most h [] o l = omega arith
sizes_most h (a ∷ xs) o l =
    let n : In xs a → ⊥ = λ i. o.0 (contains_from_in xs a i) in
    let same : (b : Addr) → In xs b → cell_of (found_in h a) b ≡ cell_of h b = λ b i. marks.found_other h a b (λ e. n (subst (In xs) (sym e) i)) in
    let ih = sizes_most (found_in h a) xs o.1 (λ b i. (subst (λ (c : Cell). IsBorn c.mark) (sym (same b i)) (l b (inr i)).0, ap (λ (c : Cell). nat_le (size_of c) 1024) (same b i) ∙ (l b (inr i)).1)) in
    let e = sizes_found h a xs n in
    let w = words_found h a a (l a (inl refl)).0 (l a (inl refl)).1 in
    omega arith
