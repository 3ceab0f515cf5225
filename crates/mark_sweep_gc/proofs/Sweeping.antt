-- A chunk swept cell by cell.
use Rattle.mark_sweep_gc.proofs.Common.{◌≡◌, ℕ, zero, suc, ◌+◌, ◌-◌, ◌≤◌, Bool, true, false, List, [], ◌∷◌, refl, sym, ap, ◌∙◌, subst, arith, inl, inr, ◌↔◌, ◌||◌, IsTrue, cases_lt, false≢true, le-leb, lt-leb, or_left, Addr, Born, Cell, Hole, IsObject, Mark, Moved, no_cell, as_object, marked_object, size_of, with_mark, ChunkValue, IsCellAt, cell_at, put_cell, words_in, has_address, has_object, is_object, swept_cell, swept_cells}
use Rattle.object_layout.proofs.PlaceLemmas as place

-- ---- a cell

pub size_swept : (b : Bool) (c : Cell) → size_of (swept_cell b c) ≡ size_of c
size_swept true c = refl
size_swept false c = refl

pub object_is : (m : Mark) (r : Bool) → (IsTrue r ↔ IsObject m) → r ≡ is_object m
object_is (Born b) true e = refl
object_is (Born b) false e = e.1 tt
object_is (Moved to) true e = refl
object_is (Moved to) false e = e.1 tt
object_is Hole true e = absurd (e.0 refl)
object_is Hole false e = refl

-- no object is left where there was none
pub none_left : (b : Bool) (c : Cell) → is_object c.mark ≡ false → is_object (swept_cell b c).mark ≡ false
none_left true c e = e
none_left false c e = refl

hole_itself : (c : Cell) → is_object c.mark ≡ false → with_mark c Hole ≡ c
hole_itself c e = by_mark c.mark refl
  where
    by_mark : (m : Mark) → m ≡ c.mark → with_mark c Hole ≡ c
    by_mark (Born b) q = absurd (false≢true (sym e ∙ sym (ap is_object q)))
    by_mark (Moved to) q = absurd (false≢true (sym e ∙ sym (ap is_object q)))
    by_mark Hole q = λ i. record { mark = q i; mutable = c.mutable; refs = c.refs; ints = c.ints }

-- what is no object, or is kept, is unchanged
pub swept_itself : (b : Bool) (c : Cell) → is_object c.mark ≡ false → swept_cell b c ≡ c
swept_itself true c e = refl
swept_itself false c e = hole_itself c e

pub left_itself : (b : Bool) (c : Cell) → is_object (swept_cell b c).mark ≡ true → swept_cell b c ≡ c
left_itself true c e = refl
left_itself false c e = absurd (false≢true e)

-- an object that isn't kept becomes a hole
pub dropped_is : (b : Bool) (c : Cell) → is_object c.mark ≡ true → is_object (swept_cell b c).mark ≡ false → with_mark c Hole ≡ swept_cell b c
dropped_is true c o e = absurd (false≢true (sym e ∙ o))
dropped_is false c o e = refl

-- ---- cells one after another

module _ (kept : List Addr) (number : ℕ) where
  abbrev pub at_swept : ℕ → Cell → Cell
  at_swept at c = swept_cell (has_address kept (record { chunk = number; offset = at })) c

  size_at : (at : ℕ) (c : Cell) → size_of (at_swept at c) ≡ size_of c
  size_at at c = size_swept (has_address kept (record { chunk = number; offset = at })) c

  -- those before an offset are swept; the first begins at start
  abbrev pub before : ℕ → List Cell → ℕ → List Cell
  before start cs zero = cs
  before start [] (suc n) = []
  before start (c ∷ cs) (suc n) = at_swept start c ∷ before (start + size_of c) cs (suc n - size_of c)

  pub before_begins : (start : ℕ) (cs : List Cell) (at : ℕ) → IsCellAt cs at → IsCellAt (before start cs at) at
  before_begins start [] at o = absurd o
  before_begins start (c ∷ cs) zero o = tt
  before_begins start (c ∷ cs) (suc n) o =
      let e = size_at start c in
      (let w : size_of c ≤ suc n = o.0 in omega arith, rw e (before_begins (start + size_of c) cs (suc n - size_of c) o.1))

  pub before_cell : (start : ℕ) (cs : List Cell) (at : ℕ) → IsCellAt cs at → cell_at (before start cs at) at ≡ cell_at cs at
  before_cell start [] at o = absurd o
  before_cell start (c ∷ cs) zero o = refl
  before_cell start (c ∷ cs) (suc n) o =
      let w : size_of c ≤ suc n = o.0 in
      rw (size_at start c, le-leb (size_of c) (suc n) w) (before_cell (start + size_of c) cs (suc n - size_of c) o.1)

  past : (start : ℕ) (c : Cell) (cs : List Cell) (p n : ℕ) → n ≡ size_of c + p → before start (c ∷ cs) n ≡ at_swept start c ∷ before (start + size_of c) cs p
  past start c cs p zero e = absurd (omega arith)
  past start c cs p (suc n) e = let g : suc n - size_of c ≡ p = omega arith in rw g refl

  pub before_more : (start : ℕ) (cs : List Cell) (at : ℕ) (here : ℕ) → here ≡ start + at → IsCellAt cs at →
      put_cell (before start cs at) at (at_swept here (cell_at cs at)) ≡ before start cs (at + size_of (cell_at cs at))
  before_more start [] at here q o = absurd o
  before_more start (c ∷ cs) zero here q o =
      let e : zero + size_of c ≡ size_of c + 0 = omega arith in
      let same : here ≡ start = omega arith in
      ap (λ (n : ℕ). at_swept n c ∷ cs) same ∙ sym (past start c cs 0 (zero + size_of c) e)
  before_more start (c ∷ cs) (suc n) here q o =
      let w : size_of c ≤ suc n = o.0 in
      let e : suc n + size_of (cell_at cs (suc n - size_of c)) ≡ size_of c + ((suc n - size_of c) + size_of (cell_at cs (suc n - size_of c))) = omega arith in
      let there : here ≡ (start + size_of c) + (suc n - size_of c) = omega arith in
      rw (size_at start c, le-leb (size_of c) (suc n) w)
      (ap (λ (xs : List Cell). at_swept start c ∷ xs) (before_more (start + size_of c) cs (suc n - size_of c) here there o.1)
      ∙ sym (past start c cs _ _ e))

  pub before_all : (start : ℕ) (cs : List Cell) → before start cs (words_in cs) ≡ swept_cells kept number start cs
  before_all start [] = refl
  before_all start (c ∷ cs) = past start c cs (words_in cs) _ refl ∙ ap (λ (xs : List Cell). at_swept start c ∷ xs) (before_all (start + size_of c) cs)

  -- one more cell
  module _ (k now after : ChunkValue) (at : ℕ) (own : k.number ≡ number) (o : IsCellAt k.cells at)
      (is : now ≡ record k { cells = before 0 k.cells at })
      (done : after ≡ record now { cells = put_cell now.cells at (swept_cell (has_address kept (record { chunk = now.number; offset = at })) (cell_at now.cells at)) }) where
    now_cells : now.cells ≡ before 0 k.cells at
    now_cells = ap (λ (x : ChunkValue). x.cells) is

    pub begins_there : IsCellAt now.cells at
    begins_there = subst (λ (xs : List Cell). IsCellAt xs at) (sym now_cells) (before_begins 0 k.cells at o)

    cell_before : cell_at now.cells at ≡ cell_at k.cells at
    cell_before = ap (λ (xs : List Cell). cell_at xs at) now_cells ∙ before_cell 0 k.cells at o

    after_cells : after.cells ≡ put_cell now.cells at (swept_cell (has_address kept (record { chunk = now.number; offset = at })) (cell_at now.cells at))
    after_cells = ap (λ (x : ChunkValue). x.cells) done

    same_size : size_of (swept_cell (has_address kept (record { chunk = now.number; offset = at })) (cell_at now.cells at)) ≡ size_of (cell_at now.cells at)
    same_size = size_swept (has_address kept (record { chunk = now.number; offset = at })) (cell_at now.cells at)

    pub after_begins : IsCellAt after.cells at
    after_begins = subst (λ (xs : List Cell). IsCellAt xs at) (sym after_cells) (place.IsCellAt-put now.cells at at _ same_size begins_there)

    pub after_size : size_of (cell_at after.cells at) ≡ size_of (cell_at k.cells at)
    after_size =
        ap (λ (xs : List Cell). size_of (cell_at xs at)) after_cells
        ∙ (ap size_of (place.cell_at-put_same now.cells at _ begins_there) ∙ (same_size ∙ ap size_of cell_before))

    pub after_is : (next : ℕ) → next ≡ at + size_of (cell_at k.cells at) → after ≡ record k { cells = before 0 k.cells next }
    after_is next e =
        let same : now.number ≡ number = ap (λ (x : ChunkValue). x.number) is ∙ own in
        let zero_more : at ≡ 0 + at = omega arith in
        let cells : after.cells ≡ before 0 k.cells next =
        after_cells
        ∙ (ap (λ (n : ℕ). put_cell now.cells at (swept_cell (has_address kept (record { chunk = n; offset = at })) (cell_at now.cells at))) same
        ∙ (ap (λ (c : Cell). put_cell now.cells at (at_swept at c)) cell_before
        ∙ (ap (λ (xs : List Cell). put_cell xs at (at_swept at (cell_at k.cells at))) now_cells
        ∙ (before_more 0 k.cells at at zero_more o ∙ ap (before 0 k.cells) (sym e))))) in
        done
        ∙ (ap (λ (x : ChunkValue). let r : ChunkValue = record x { cells = put_cell now.cells at (swept_cell (has_address kept (record { chunk = now.number; offset = at })) (cell_at now.cells at)) } in r) is
        ∙ ap (λ (xs : List Cell). let r : ChunkValue = record k { cells = xs } in r) (sym after_cells ∙ cells))

  -- ---- whether an object is kept

  or_false : (b c : Bool) → b ≡ false → (b || c) ≡ c
  or_false true c e = absurd (false≢true (sym e))
  or_false false c e = refl

  pub some_left : (rest : List Cell) (at : ℕ) (c : Cell) (ds : List Cell) → rest ≡ c ∷ ds → is_object (at_swept at c).mark ≡ true → has_object (swept_cells kept number at rest) ≡ true
  some_left rest at c ds e t = ap (λ (xs : List Cell). has_object (swept_cells kept number at xs)) e ∙ or_left (is_object (at_swept at c).mark) (has_object (swept_cells kept number (at + size_of c) ds)) t

  pub go_on : (rest : List Cell) (at next : ℕ) (c : Cell) (ds : List Cell) → rest ≡ c ∷ ds → next ≡ at + size_of c → is_object (at_swept at c).mark ≡ false → has_object (swept_cells kept number at rest) ≡ has_object (swept_cells kept number next ds)
  go_on rest at next c ds e n t =
      ap (λ (xs : List Cell). has_object (swept_cells kept number at xs)) e
      ∙ (or_false (is_object (at_swept at c).mark) (has_object (swept_cells kept number (at + size_of c) ds)) t ∙ ap (λ (m : ℕ). has_object (swept_cells kept number m ds)) (sym n))

  -- ---- what is read in a swept chunk

  pub read_swept : (start : ℕ) (cs : List Cell) (at here : ℕ) → here ≡ start + at → cell_at (swept_cells kept number start cs) at ≡ at_swept here (cell_at cs at)
  read_swept start [] at here q = nothing (has_address kept (record { chunk = number; offset = here }))
    where
      nothing : (b : Bool) → no_cell ≡ swept_cell b no_cell
      nothing true = refl
      nothing false = refl
  read_swept start (c ∷ cs) zero here q = let same : start ≡ here = omega arith in ap (λ (n : ℕ). at_swept n c) same
  read_swept start (c ∷ cs) (suc n) here q =
      elim (cases_lt (suc n) (size_of c)) [
        | inl above ↦ rw (size_at start c, lt-leb (size_of c) (suc n) above) (nothing (has_address kept (record { chunk = number; offset = here })))
        | inr within ↦ let there : here ≡ (start + size_of c) + (suc n - size_of c) = omega arith in
            rw (size_at start c, le-leb (size_of c) (suc n) within) (read_swept (start + size_of c) cs (suc n - size_of c) here there)
      ]
    where
      nothing : (b : Bool) → no_cell ≡ swept_cell b no_cell
      nothing true = refl
      nothing false = refl

-- if no object is kept in a chunk, none is read in it
pub none_read : (cs : List Cell) (at : ℕ) → has_object cs ≡ false → as_object (cell_at cs at) ≡ no_cell
none_read [] at e = refl
none_read (c ∷ cs) at e = by_head (λ q n. none_read cs n q) (is_object c.mark) refl at
  where
    gone : (d : Cell) → is_object d.mark ≡ false → as_object d ≡ no_cell
    gone d q = by_mark d.mark refl
      where
        by_mark : (m : Mark) → m ≡ d.mark → as_object d ≡ no_cell
        by_mark (Born b) r = absurd (false≢true (sym q ∙ sym (ap is_object r)))
        by_mark (Moved to) r = absurd (false≢true (sym q ∙ sym (ap is_object r)))
        by_mark Hole r = ap (λ (n : Mark). marked_object n d) (sym r)

    rest_false : is_object c.mark ≡ false → has_object cs ≡ false
    rest_false q = sym (or_false' (is_object c.mark) (has_object cs) q) ∙ e
      where
        or_false' : (b d : Bool) → b ≡ false → (b || d) ≡ d
        or_false' true d r = absurd (false≢true (sym r))
        or_false' false d r = refl

    by_head : (has_object cs ≡ false → (n : ℕ) → as_object (cell_at cs n) ≡ no_cell) → (b : Bool) → b ≡ is_object c.mark → (n : ℕ) → as_object (cell_at (c ∷ cs) n) ≡ no_cell
    by_head rest true q n = absurd (false≢true (sym e ∙ or_left (is_object c.mark) (has_object cs) (sym q)))
    by_head rest false q zero = gone c (sym q)
    by_head rest false q (suc n) =
        elim (cases_lt (suc n) (size_of c)) [
          | inl above ↦ rw (lt-leb (size_of c) (suc n) above) refl
          | inr within ↦ rw (le-leb (size_of c) (suc n) within) (rest (rest_false (sym q)) (suc n - size_of c))
        ]
