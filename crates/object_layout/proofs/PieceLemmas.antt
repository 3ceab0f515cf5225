-- The immutable objects of a chunk: in order, each at the beginning of a cell.
use Rattle.object_layout.proofs.Common.{◌≡◌, ◌≢◌, ℕ, zero, suc, ◌+◌, ◌-◌, ◌<◌, ◌≤◌, Bool, true, false, List, [], ◌∷◌, length, get_or, refl, sym, ap, ◌∙◌, arith, Option, Some, None, eqb, inl, inr, map, is_some, Result, Ok, Err, is_ok, nat_cmp, cases_Bool, cases_lt, eq-eqb, eqb-true, ne_eqb, searched, IsBinarySearchResult, same_Some, Born, Cell, Hole, IsObject, Mark, Moved, size_of, IsObjectAt, cell_at, object_at, frozen_at, frozen_from, is_frozen, lasts, or_no_cell, starts_from, starts_in}
use Rattle.object_layout.proofs.PlaceLemmas as place

-- none begins before the first cell
least_first : (at : ℕ) (rest : List ℕ) → ((j : ℕ) → j < length rest → at ≤ get_or rest j 0) → (i : ℕ) → i < length (at ∷ rest) → at ≤ get_or (at ∷ rest) i 0
least_first at rest later zero l = omega arith
least_first at rest later (suc i) l = later i (omega arith)

least : (cs : List Cell) (at i : ℕ) → i < length (starts_from at cs) → at ≤ get_or (starts_from at cs) i 0
least [] at i l = absurd (omega arith)
least (c ∷ cs) at i l =
    elim (cases_Bool (is_frozen c)) [
      | inl e ↦ rw e (least_first at (starts_from (at + size_of c) cs) (λ j m. omega (arith, least cs (at + size_of c) j m)) i (rw e at l))
      | inr e ↦ rw e (omega (arith, least cs (at + size_of c) i (rw e at l)))
    ]

-- they begin one after the other
rising_first : (at : ℕ) (rest : List ℕ) → ((j : ℕ) → j < length rest → at ≤ get_or rest j 0) → ((i j : ℕ) → i ≤ j → j < length rest → get_or rest i 0 ≤ get_or rest j 0) →
    (i j : ℕ) → i ≤ j → j < length (at ∷ rest) → get_or (at ∷ rest) i 0 ≤ get_or (at ∷ rest) j 0
rising_first at rest later up zero zero le l = omega arith
rising_first at rest later up zero (suc j) le l = later j (omega arith)
rising_first at rest later up (suc i) zero le l = absurd (omega arith)
rising_first at rest later up (suc i) (suc j) le l = up i j (omega arith) (omega arith)

rising : (cs : List Cell) (at i j : ℕ) → i ≤ j → j < length (starts_from at cs) → get_or (starts_from at cs) i 0 ≤ get_or (starts_from at cs) j 0
rising [] at i j le l = absurd (omega arith)
rising (c ∷ cs) at i j le l =
    elim (cases_Bool (is_frozen c)) [
      | inl e ↦
          rw e (rising_first at (starts_from (at + size_of c) cs) (λ k m. omega (arith, least cs (at + size_of c) k m)) (λ a b n m. rising cs (at + size_of c) a b n m) i j le (rw e at l))
      | inr e ↦ rw e (rising cs (at + size_of c) i j le (rw e at l))
    ]

pub starts_rise : (cs : List Cell) (i j : ℕ) → i ≤ j → j < length (starts_in cs) → get_or (starts_in cs) i 0 ≤ get_or (starts_in cs) j 0
starts_rise cs i j le l = rising cs 0 i j le l

-- ---- by offsets

abbrev starts : List (ℕ × Cell) → List ℕ
starts os = map (λ (o : ℕ × Cell). o.0) os

-- an object that begins at an offset is found
pub found_there : (os : List (ℕ × Cell)) (i offset : ℕ) → i < length (starts os) → get_or (starts os) i 0 ≡ offset → is_some (frozen_at os offset) ≡ true
found_there [] i offset l e = absurd (omega arith)
found_there (o ∷ os) zero offset l e = rw (eq-eqb o.0 offset e) refl
found_there (o ∷ os) (suc i) offset l e =
    elim (cases_Bool (eqb o.0 offset)) [
      | inl b ↦ rw b refl
      | inr b ↦ rw b (found_there os i offset (omega arith) e)
    ]

-- if none begins at an offset, none is found
pub found_nowhere : (os : List (ℕ × Cell)) (offset : ℕ) → ((i : ℕ) → i < length (starts os) → get_or (starts os) i 0 ≢ offset) → is_some (frozen_at os offset) ≡ false
found_nowhere [] offset none = refl
found_nowhere (o ∷ os) offset none = rw (ne_eqb o.0 offset (none 0 (omega arith))) (found_nowhere os offset (λ i l. none (suc i) (omega arith)))

-- ---- in their chunk

frozen_object : (m : Mark) (b : Bool) → lasts m b ≡ true → IsObject m
frozen_object (Born n) b e = tt
frozen_object (Moved to) b e = cc
frozen_object Hole b e = cc

abbrev LiesAt : List Cell → ℕ → ℕ → Cell → Type 0
LiesAt cs at offset c = (at ≤ offset) × (cell_at cs (offset - at) ≡ c) × (is_frozen c ≡ true)

past : (k : Cell) (cs : List Cell) (at offset : ℕ) (c : Cell) → LiesAt cs (at + size_of k) offset c → LiesAt (k ∷ cs) at offset c
past k cs at offset c l = (omega arith, place.cell_at-past k cs (offset - (at + size_of k)) (offset - at) (omega arith) ∙ l.1, l.2)

-- what is found is a cell there
lies_first : (k : Cell) (cs : List Cell) (at offset : ℕ) (c : Cell) → is_frozen k ≡ true →
    (frozen_at (frozen_from (at + size_of k) cs) offset ≡ Some c → LiesAt (k ∷ cs) at offset c) →
    frozen_at ((at, k) ∷ frozen_from (at + size_of k) cs) offset ≡ Some c → LiesAt (k ∷ cs) at offset c
lies_first k cs at offset c b later e =
    elim (cases_Bool (eqb at offset)) [
      | inl s ↦
          let is : k ≡ c = same_Some k c (rw s at e) in
          let same : at ≡ offset = eqb-true at offset s in
          let start : offset - at ≡ 0 = omega arith in
          (omega arith, rw start is, rw (← is) b)
      | inr s ↦ later (rw s at e)
    ]

lies_there : (cs : List Cell) (at offset : ℕ) (c : Cell) → frozen_at (frozen_from at cs) offset ≡ Some c → LiesAt cs at offset c
lies_there [] at offset c e = cc
lies_there (k ∷ cs) at offset c e =
    elim (cases_Bool (is_frozen k)) [
      | inl b ↦ lies_first k cs at offset c b (λ f. past k cs at offset c (lies_there cs (at + size_of k) offset c f)) (rw b at e)
      | inr b ↦ past k cs at offset c (lies_there cs (at + size_of k) offset c (rw b at e))
    ]

-- an object that is found, as it is read from the chunk
pub record IsFound (cs : List Cell) (offset : ℕ) (o : Option Cell) : Type 0 where
  pub there : IsObjectAt cs offset
  pub is : o ≡ Some (object_at cs offset)

found_as : (cs : List Cell) (offset : ℕ) (o : Option Cell) → o ≡ frozen_at (frozen_from 0 cs) offset → is_some o ≡ true → IsFound cs offset o
found_as cs offset None e s = cc
found_as cs offset (Some c) e s =
    let l = lies_there cs 0 offset c (sym e) in
    let whole : offset - 0 ≡ offset = omega arith in
    let at : cell_at cs offset ≡ c = rw whole at l.1 in
    let object : IsObjectAt cs offset = rw at (frozen_object c.mark c.mutable l.2) in
    record { there = object; is = ap Some (sym (place.object_is cs offset object ∙ at)) }

pub found_is : (cs : List Cell) (offset : ℕ) → is_some (frozen_at (frozen_from 0 cs) offset) ≡ true → IsFound cs offset (frozen_at (frozen_from 0 cs) offset)
found_is cs offset s = found_as cs offset _ refl s

-- what has a field is found
field_as : (cs : List Cell) (offset : ℕ) (o : Option Cell) → o ≡ frozen_at (frozen_from 0 cs) offset → (f : Cell → ℕ) → f (or_no_cell None) ≡ 0 → (field : ℕ) → field < f (or_no_cell o) → or_no_cell o ≡ object_at cs offset
field_as cs offset None e f z field l = absurd (omega arith)
field_as cs offset (Some c) e f z field l = let i = found_as cs offset (Some c) e refl in ap or_no_cell i.is

pub with_field : (cs : List Cell) (offset : ℕ) (f : Cell → ℕ) → f (or_no_cell None) ≡ 0 → (field : ℕ) → field < f (or_no_cell (frozen_at (frozen_from 0 cs) offset)) →
    or_no_cell (frozen_at (frozen_from 0 cs) offset) ≡ object_at cs offset
with_field cs offset f z field l = field_as cs offset _ refl f z field l

-- ---- searched

pub searched_in : (cs : List Cell) (xs : List ℕ) → xs ≡ starts_in cs → (offset : ℕ) (r : Result ℕ ℕ) → IsBinarySearchResult (λ y. nat_cmp y offset) xs r →
    is_ok r ≡ is_some (frozen_at (frozen_from 0 cs) offset)
searched_in cs xs e offset (Ok i) s =
    let up : (i j : ℕ) → i ≤ j → j < length xs → get_or xs i 0 ≤ get_or xs j 0 = rw e (starts_rise cs) in
    let at = searched xs offset (Ok i) s up in
    sym (found_there (frozen_from 0 cs) i offset (rw e at at.0) (rw e at at.1))
searched_in cs xs e offset (Err i) s =
    let up : (i j : ℕ) → i ≤ j → j < length xs → get_or xs i 0 ≤ get_or xs j 0 = rw e (starts_rise cs) in
    let at = searched xs offset (Err i) s up in
    let nowhere : (k : ℕ) → k < length xs → get_or xs k 0 ≢ offset = λ k l f. absurd (elim (cases_lt k i) [
      | inl below ↦ omega (arith, at.1 k below)
      | inr behind ↦ omega (arith, at.2 k behind l)
    ]) in
    sym (found_nowhere (frozen_from 0 cs) offset (rw e at nowhere))
