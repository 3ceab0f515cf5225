-- Objects by their offsets: laws of the list of objects, and where their words are.
use Rattle.std.proofs.Common.{length-set}
use Rattle.object_layout.proofs.Common.{◌≡◌, ℕ, zero, suc, ◌+◌, ◌-◌, ◌<◌, ◌≤◌, List, [], ◌∷◌, ◌++◌, length, map, get_or, set, refl, sym, ap, ◌∙◌, arith, length-append, ⊎_elim, inl, inr, ◌⊎◌, All, ◌≢◌, nat_le, if◌then◌else◌, Option, ℤ, slice_set, append_assoc, get_or-append_right, get_or_append_left, set-append_left, set-append_right, All-head, All-tail, All-cons, le-leb, lt-leb, cases_lt, cond_both, Addr, Cell, Mark, Born, Moved, Hole, IsBorn, IsObject, as_object, marked_object, no_cell, size_of, cell_with_int, with_ref, words_of_cell, words_of_cells, words_in, IsCellAt, IsObjectAt, cell_at, cells_from, object_at, put_cell, Birth}
use Rattle.object_layout.proofs.WordLemmas.{length-words_of_cell}

-- ---- where the words of an object are

pub length-words_of_cells : (cs : List Cell) → length (words_of_cells cs) ≡ words_in cs
length-words_of_cells [] = refl
length-words_of_cells (c ∷ cs) =
    let e = length-words_of_cell c in
    let ih = length-words_of_cells cs in
    simp length-append (omega arith)

pub cell_ends : (cs : List Cell) (at : ℕ) → IsCellAt cs at → at + size_of (cell_at cs at) ≤ words_in cs
cell_ends [] at h = absurd h
cell_ends (c ∷ cs) zero h = omega arith
cell_ends (c ∷ cs) (suc n) h =
    let ih = cell_ends cs (suc n - size_of c) h.1 in
    let within : size_of c ≤ suc n = h.0 in
    rw (le-leb (size_of c) (suc n) within) (omega arith)

-- the k-th word of the object at an offset
pub get_or-words_of_cells : (cs : List Cell) (at k : ℕ) (d : ℕ) → IsCellAt cs at → k < size_of (cell_at cs at) →
    get_or (words_of_cells cs) (at + k) d ≡ get_or (words_of_cell (cell_at cs at)) k d
get_or-words_of_cells [] at k d h l = absurd h
get_or-words_of_cells (c ∷ cs) zero k d h l =
    let len = length-words_of_cell c in
    let e : zero + k ≡ k = omega arith in
    rw e (get_or_append_left (words_of_cell c) (words_of_cells cs) d k (omega arith))
get_or-words_of_cells (c ∷ cs) (suc n) k d h l =
    let len = length-words_of_cell c in
    let within : size_of c ≤ suc n = h.0 in
    let t = le-leb (size_of c) (suc n) within in
    let m = rw t at l in
    rw t (
    let past = get_or-append_right (words_of_cell c) (words_of_cells cs) (size_of c) (suc n + k) d len (omega arith) in
    let e : suc n + k - size_of c ≡ (suc n - size_of c) + k = omega arith in
    past ∙ rw e (get_or-words_of_cells cs (suc n - size_of c) k d h.1 m))

-- the words around those of the object at an offset
pub record AroundAt (cs : List Cell) (at : ℕ) (before after : List ℕ) : Type 0 where
  pub starts : length before ≡ at
  pub holds : words_of_cells cs ≡ before ++ (words_of_cell (cell_at cs at) ++ after)
  pub holds_put : (d : Cell) → words_of_cells (put_cell cs at d) ≡ before ++ (words_of_cell d ++ after)

pub around : (cs : List Cell) (at : ℕ) → IsCellAt cs at → (before : List ℕ) × ((after : List ℕ) × AroundAt cs at before after)
around [] at h = absurd h
around (c ∷ cs) zero h = ([], (words_of_cells cs, record { starts = refl; holds = refl; holds_put = λ d. refl }))
around (c ∷ cs) (suc n) h =
    let ih = around cs (suc n - size_of c) h.1 in
    let len = length-words_of_cell c in
    let within : size_of c ≤ suc n = h.0 in
    let t = le-leb (size_of c) (suc n) within in
    let starts : length ih.0 ≡ suc n - size_of c = ih.1.1.starts in (
      words_of_cell c ++ ih.0,
      (
        ih.1.0,
        record {
          starts = simp length-append (omega arith);
          holds = rw (t, append_assoc, ih.1.1.holds);
          holds_put = λ d. rw (t, append_assoc, ih.1.1.holds_put d);
        },
      ),
    )

-- a write to the k-th word of the middle part
pub set_middle : (before middle after : List ℕ) (at k w : ℕ) → length before ≡ at → k < length middle →
    set (before ++ (middle ++ after)) (at + k) w ≡ before ++ (set middle k w ++ after)
set_middle before middle after at k w h l =
    let e : at + k - at ≡ k = omega arith in
    set-append_right before (middle ++ after) at (at + k) w h (omega arith)
    ∙ rw e (ap (λ (xs : List ℕ). before ++ xs) (set-append_left middle after k w l))

-- ---- laws of the list of objects

pub All-cell_at : (P : Cell → Type 0) (cs : List Cell) (at : ℕ) → IsCellAt cs at → All P cs → P (cell_at cs at)
All-cell_at P [] at h a = absurd h
All-cell_at P (c ∷ cs) zero h a = All-head P c cs a
All-cell_at P (c ∷ cs) (suc n) h a = rw (le-leb (size_of c) (suc n) h.0) (All-cell_at P cs (suc n - size_of c) h.1 (All-tail P c cs a))

pub All-put_cell : (P : Cell → Type 0) (cs : List Cell) (at : ℕ) (d : Cell) → P d → All P cs → All P (put_cell cs at d)
All-put_cell P [] at d p a = a
All-put_cell P (c ∷ cs) zero d p a = All-cons P d cs p (All-tail P c cs a)
All-put_cell P (c ∷ cs) (suc n) d p a =
    All-cons P c _ (All-head P c cs a)
    (cond_both (nat_le (size_of c) (suc n)) (put_cell cs (suc n - size_of c) d) cs (All P)
    (λ _. All-put_cell P cs (suc n - size_of c) d p (All-tail P c cs a)) (λ _. All-tail P c cs a))

-- what was put is read
pub cell_at-put_same : (cs : List Cell) (at : ℕ) (d : Cell) → IsCellAt cs at → cell_at (put_cell cs at d) at ≡ d
cell_at-put_same [] at d h = absurd h
cell_at-put_same (c ∷ cs) zero d h = refl
cell_at-put_same (c ∷ cs) (suc n) d h = rw (le-leb (size_of c) (suc n) h.0) (cell_at-put_same cs (suc n - size_of c) d h.1)

-- if the new object has the old one's size, objects stay where they are
pub IsCellAt-put : (cs : List Cell) (at p : ℕ) (d : Cell) → size_of d ≡ size_of (cell_at cs at) → IsCellAt cs p → IsCellAt (put_cell cs at d) p
IsCellAt-put [] at p d s h = absurd h
IsCellAt-put (c ∷ cs) zero zero d s h = tt
IsCellAt-put (c ∷ cs) zero (suc m) d s h = rw s h
IsCellAt-put (c ∷ cs) (suc n) zero d s h = tt
IsCellAt-put (c ∷ cs) (suc n) (suc m) d s h =
    ⊎_elim
    (λ (above : suc n < size_of c). rw (lt-leb (size_of c) (suc n) above) h)
    (λ (within : size_of c ≤ suc n).
    let t = le-leb (size_of c) (suc n) within in
    rw t (h.0, IsCellAt-put cs (suc n - size_of c) (suc m - size_of c) d (rw t at s) h.1))
    (cases_lt (suc n) (size_of c))

-- other offsets are unchanged
pub cell_at-put_other : (cs : List Cell) (at p : ℕ) (d : Cell) → size_of d ≡ size_of (cell_at cs at) → p ≢ at →
    cell_at (put_cell cs at d) p ≡ cell_at cs p
cell_at-put_other [] at p d s ne = refl
cell_at-put_other (c ∷ cs) zero zero d s ne = absurd (ne refl)
cell_at-put_other (c ∷ cs) zero (suc m) d s ne =
    ap (λ (k : ℕ). if nat_le k (suc m) then cell_at cs (suc m - k) else no_cell) s
cell_at-put_other (c ∷ cs) (suc n) zero d s ne = refl
cell_at-put_other (c ∷ cs) (suc n) (suc m) d s ne =
    ⊎_elim
    (λ (above : suc n < size_of c). rw (lt-leb (size_of c) (suc n) above))
    (λ (within : size_of c ≤ suc n).
    let t = le-leb (size_of c) (suc n) within in
    rw t (⊎_elim
    (λ (over : suc m < size_of c). rw (lt-leb (size_of c) (suc m) over))
    (λ (inside : size_of c ≤ suc m).
    let u = le-leb (size_of c) (suc m) inside in
    rw u (cell_at-put_other cs (suc n - size_of c) (suc m - size_of c) d (rw t at s) (λ e. ne (omega arith))))
    (cases_lt (suc m) (size_of c))))
    (cases_lt (suc n) (size_of c))

-- if no object begins at an offset, nothing is put
pub put_nowhere : (cs : List Cell) (at : ℕ) (d : Cell) → (IsCellAt cs at → ⊥) → put_cell cs at d ≡ cs
put_nowhere [] at d h = refl
put_nowhere (c ∷ cs) zero d h = absurd (h tt)
put_nowhere (c ∷ cs) (suc n) d h =
    ⊎_elim
    (λ (above : suc n < size_of c). rw (lt-leb (size_of c) (suc n) above))
    (λ (within : size_of c ≤ suc n).
    rw (le-leb (size_of c) (suc n) within) (ap (λ (xs : List Cell). c ∷ xs) (put_nowhere cs (suc n - size_of c) d (λ o. h (within, o)))))
    (cases_lt (suc n) (size_of c))

-- an object begins at an offset, or none does
pub cell_or_none : (cs : List Cell) (at : ℕ) → IsCellAt cs at ⊎ ((IsCellAt cs at → ⊥) × (cell_at cs at ≡ no_cell))
cell_or_none [] at = inr ((λ h. h), refl)
cell_or_none (c ∷ cs) zero = inl tt
cell_or_none (c ∷ cs) (suc n) =
    ⊎_elim
    (λ (above : suc n < size_of c). inr ((λ h. let w : size_of c ≤ suc n = h.0 in omega arith), rw (lt-leb (size_of c) (suc n) above)))
    (λ (within : size_of c ≤ suc n).
    rw (le-leb (size_of c) (suc n) within)
    (⊎_elim (λ (o : IsCellAt cs (suc n - size_of c)). inl (within, o))
    (λ (o : (IsCellAt cs (suc n - size_of c) → ⊥) × (cell_at cs (suc n - size_of c) ≡ no_cell)). inr ((λ h. o.0 h.1), o.1))
    (cell_or_none cs (suc n - size_of c))))
    (cases_lt (suc n) (size_of c))

-- a function of each cell is unchanged if the cell that is replaced has the same value
pub map-put_cell : {B : Type 0} (told : Cell → B) (cs : List Cell) (at : ℕ) (d : Cell) → told d ≡ told (cell_at cs at) → map told (put_cell cs at d) ≡ map told cs
map-put_cell told [] at d s = refl
map-put_cell told (c ∷ cs) zero d s = ap (λ z. z ∷ map told cs) s
map-put_cell told (c ∷ cs) (suc n) d s =
    elim (cases_lt (suc n) (size_of c)) [
      | inl above ↦ rw (lt-leb (size_of c) (suc n) above) refl
      | inr within ↦
          let t = le-leb (size_of c) (suc n) within in
          rw t (ap (λ zs. told c ∷ zs) (map-put_cell told cs (suc n - size_of c) d (rw t at s)))
    ]

-- and so is a total of weights
pub total-put_cell : (weight : Cell → ℕ) (total : List Cell → ℕ) → ((c : Cell) (cs : List Cell) → total (c ∷ cs) ≡ weight c + total cs) → (cs : List Cell) (at : ℕ) (d : Cell) → weight d ≡ weight (cell_at cs at) → total (put_cell cs at d) ≡ total cs
total-put_cell weight total adds [] at d s = refl
total-put_cell weight total adds (c ∷ cs) zero d s = adds d cs ∙ (ap (λ n. n + total cs) s ∙ sym (adds c cs))
total-put_cell weight total adds (c ∷ cs) (suc n) d s =
    elim (cases_lt (suc n) (size_of c)) [
      | inl above ↦ rw (lt-leb (size_of c) (suc n) above) refl
      | inr within ↦
          let t = le-leb (size_of c) (suc n) within in
          rw t (adds c (put_cell cs (suc n - size_of c) d) ∙ (ap (λ n. weight c + n) (total-put_cell weight total adds cs (suc n - size_of c) d (rw t at s)) ∙ sym (adds c cs)))
    ]

pub words_in-put : (cs : List Cell) (at : ℕ) (d : Cell) → size_of d ≡ size_of (cell_at cs at) → words_in (put_cell cs at d) ≡ words_in cs
words_in-put = total-put_cell size_of words_in (λ c cs. refl)

-- ---- one more object

pub words_in-push : (cs : List Cell) (d : Cell) → words_in (cs ++ d ∷ []) ≡ words_in cs + size_of d
words_in-push [] d = omega arith
words_in-push (c ∷ cs) d = let ih = words_in-push cs d in omega arith

pub cell_at-push : (cs : List Cell) (d : Cell) (p : ℕ) → IsCellAt cs p → cell_at (cs ++ d ∷ []) p ≡ cell_at cs p
cell_at-push [] d p h = absurd h
cell_at-push (c ∷ cs) d zero h = refl
cell_at-push (c ∷ cs) d (suc n) h = rw (le-leb (size_of c) (suc n) h.0) (cell_at-push cs d (suc n - size_of c) h.1)

-- past the first object
module _ (c : Cell) (cs : List Cell) (p : ℕ) where
  pub cell_at-past : (n : ℕ) → n ≡ size_of c + p → cell_at (c ∷ cs) n ≡ cell_at cs p
  cell_at-past zero e = absurd (omega arith)
  cell_at-past (suc n) e = let f : suc n - size_of c ≡ p = omega arith in rw (le-leb (size_of c) (suc n) (omega arith)) (ap (cell_at cs) f)

  IsCellAt-past : (n : ℕ) → n ≡ size_of c + p → IsCellAt cs p → IsCellAt (c ∷ cs) n
  IsCellAt-past zero e h = tt
  IsCellAt-past (suc n) e h = let f : suc n - size_of c ≡ p = omega arith in (omega arith, rw f h)

  cells_from-past : (n : ℕ) → n ≡ size_of c + p → cells_from (c ∷ cs) n ≡ cells_from cs p
  cells_from-past zero e = absurd (omega arith)
  cells_from-past (suc n) e = let f : suc n - size_of c ≡ p = omega arith in rw (le-leb (size_of c) (suc n) (omega arith)) (ap (cells_from cs) f)

pub cell_at-last : (cs : List Cell) (d : Cell) → cell_at (cs ++ d ∷ []) (words_in cs) ≡ d
cell_at-last [] d = refl
cell_at-last (c ∷ cs) d = cell_at-past c (cs ++ d ∷ []) (words_in cs) _ refl ∙ cell_at-last cs d

-- except where the new cell begins, nothing has changed
pub cell_at-push_other : (cs : List Cell) (d : Cell) (p : ℕ) → p ≢ words_in cs → cell_at (cs ++ d ∷ []) p ≡ cell_at cs p
cell_at-push_other [] d zero ne = absurd (ne refl)
cell_at-push_other [] d (suc n) ne =
    ⊎_elim
    (λ (above : suc n < size_of d). rw (lt-leb (size_of d) (suc n) above))
    (λ (within : size_of d ≤ suc n). rw (le-leb (size_of d) (suc n) within))
    (cases_lt (suc n) (size_of d))
cell_at-push_other (c ∷ cs) d zero ne = refl
cell_at-push_other (c ∷ cs) d (suc n) ne =
    ⊎_elim
    (λ (above : suc n < size_of c). rw (lt-leb (size_of c) (suc n) above))
    (λ (within : size_of c ≤ suc n). rw (le-leb (size_of c) (suc n) within) (cell_at-push_other cs d (suc n - size_of c) (λ e. ne (omega arith))))
    (cases_lt (suc n) (size_of c))

-- another cell in place of the last one
last_by : (k c d : Cell) (cs : List Cell) → put_cell (cs ++ c ∷ []) (words_in cs) d ≡ cs ++ d ∷ [] → (n : ℕ) → size_of k + words_in cs ≡ n → put_cell (k ∷ (cs ++ c ∷ [])) n d ≡ k ∷ (cs ++ d ∷ [])
last_by k c d cs ih zero e = absurd (omega arith)
last_by k c d cs ih (suc n) e =
    let t = le-leb (size_of k) (suc n) (omega arith) in
    let rest : suc n - size_of k ≡ words_in cs = omega arith in
    rw t (ap (λ (xs : List Cell). k ∷ xs) (ap (λ (j : ℕ). put_cell (cs ++ c ∷ []) j d) rest ∙ ih))

pub put_cell-last : (cs : List Cell) (c d : Cell) → put_cell (cs ++ c ∷ []) (words_in cs) d ≡ cs ++ d ∷ []
put_cell-last [] c d = refl
put_cell-last (k ∷ cs) c d = last_by k c d cs (put_cell-last cs c d) (size_of k + words_in cs) refl

-- ---- in order

pub cells_from-end : (cs : List Cell) → cells_from cs (words_in cs) ≡ []
cells_from-end [] = refl
cells_from-end (c ∷ cs) = cells_from-past c cs (words_in cs) _ refl ∙ cells_from-end cs

pub cells_from-next : (cs : List Cell) (at : ℕ) → IsCellAt cs at →
    cells_from cs at ≡ cell_at cs at ∷ cells_from cs (at + size_of (cell_at cs at))
cells_from-next [] at h = absurd h
cells_from-next (c ∷ cs) zero h =
    let e : zero + size_of c ≡ size_of c + 0 = omega arith in
    ap (λ (xs : List Cell). c ∷ xs) (sym (cells_from-past c cs 0 _ e))
cells_from-next (c ∷ cs) (suc n) h =
    let within : size_of c ≤ suc n = h.0 in
    let e : suc n + size_of (cell_at cs (suc n - size_of c)) ≡ size_of c + ((suc n - size_of c) + size_of (cell_at cs (suc n - size_of c))) = omega arith in
    rw (le-leb (size_of c) (suc n) within)
    (cells_from-next cs (suc n - size_of c) h.1
    ∙ ap (λ (xs : List Cell). cell_at cs (suc n - size_of c) ∷ xs) (sym (cells_from-past c cs _ _ e)))

-- an object, and then the next one or the end
pub next_cell : (cs : List Cell) (at : ℕ) → IsCellAt cs at → at + size_of (cell_at cs at) < words_in cs → IsCellAt cs (at + size_of (cell_at cs at))
next_cell [] at h l = absurd h
next_cell (c ∷ []) zero h l = absurd (omega arith)
next_cell (c ∷ (e ∷ es)) zero h l = IsCellAt-past c (e ∷ es) 0 (zero + size_of c) (omega arith) tt
next_cell (c ∷ cs) (suc n) h l =
    let within : size_of c ≤ suc n = h.0 in
    let t = le-leb (size_of c) (suc n) within in
    let m = rw t at l in
    rw t (IsCellAt-past c cs ((suc n - size_of c) + size_of (cell_at cs (suc n - size_of c))) _ (omega arith)
    (next_cell cs (suc n - size_of c) h.1 (omega arith)))

pub first_cell : (cs : List Cell) → 0 < words_in cs → IsCellAt cs 0
first_cell [] l = absurd (omega arith)
first_cell (c ∷ cs) l = tt

-- of two objects put at one offset the second stays
pub put_cell-put_cell : (cs : List Cell) (at : ℕ) (d e : Cell) → put_cell (put_cell cs at d) at e ≡ put_cell cs at e
put_cell-put_cell [] at d e = refl
put_cell-put_cell (c ∷ cs) zero d e = refl
put_cell-put_cell (c ∷ cs) (suc n) d e =
    ⊎_elim
    (λ (above : suc n < size_of c). rw (lt-leb (size_of c) (suc n) above))
    (λ (within : size_of c ≤ suc n).
    rw (le-leb (size_of c) (suc n) within) (ap (λ (xs : List Cell). c ∷ xs) (put_cell-put_cell cs (suc n - size_of c) d e)))
    (cases_lt (suc n) (size_of c))

-- putting the object that is there changes nothing
pub put_cell-itself : (cs : List Cell) (at : ℕ) → put_cell cs at (cell_at cs at) ≡ cs
put_cell-itself [] at = refl
put_cell-itself (c ∷ cs) zero = refl
put_cell-itself (c ∷ cs) (suc n) =
    ⊎_elim
    (λ (above : suc n < size_of c). rw (lt-leb (size_of c) (suc n) above))
    (λ (within : size_of c ≤ suc n).
    rw (le-leb (size_of c) (suc n) within) (ap (λ (xs : List Cell). c ∷ xs) (put_cell-itself cs (suc n - size_of c))))
    (cases_lt (suc n) (size_of c))

-- ---- objects

-- where an object is, a cell begins, and the object is that cell
pub cell_of_object : (cs : List Cell) (at : ℕ) → IsObjectAt cs at → IsCellAt cs at
cell_of_object cs at h =
    ⊎_elim (λ (o : IsCellAt cs at). o)
    (λ (o : (IsCellAt cs at → ⊥) × (cell_at cs at ≡ no_cell)). absurd (rw o.1 at h))
    (cell_or_none cs at)

-- an object that bears its birth name has one
pub born_name : (m : Mark) → IsBorn m → (n : Birth) × (m ≡ Born n)
born_name (Born n) ok = (n, refl)
born_name (Moved to) ok = absurd ok
born_name Hole ok = absurd ok

pub object_of_born : (m : Mark) → IsBorn m → IsObject m
object_of_born (Born b) h = tt
object_of_born (Moved to) h = absurd h
object_of_born Hole h = absurd h

-- what has a birth name is an object
pub object_when_born : (cs : List Cell) (at : ℕ) → IsBorn (cell_at cs at).mark → IsObjectAt cs at
object_when_born cs at h = object_of_born (cell_at cs at).mark h

object_marked : (m : Mark) (c : Cell) → IsObject m → marked_object m c ≡ c
object_marked (Born b) c h = refl
object_marked (Moved to) c h = refl
object_marked Hole c h = absurd h

pub object_is : (cs : List Cell) (at : ℕ) → IsObjectAt cs at → object_at cs at ≡ cell_at cs at
object_is cs at h = object_marked (cell_at cs at).mark (cell_at cs at) h

marked_cases : (m : Mark) (c : Cell) → IsObject m ⊎ (marked_object m c ≡ no_cell)
marked_cases (Born b) c = inl tt
marked_cases (Moved to) c = inl tt
marked_cases Hole c = inr refl

-- there is an object at an offset, or none
pub object_or_none : (cs : List Cell) (at : ℕ) → IsObjectAt cs at ⊎ (object_at cs at ≡ no_cell)
object_or_none cs at = marked_cases (cell_at cs at).mark (cell_at cs at)

-- what has a field is an object
pub object_with_ref : (cs : List Cell) (at k : ℕ) → k < length (object_at cs at).refs → IsObjectAt cs at
object_with_ref cs at k l =
    ⊎_elim (λ (o : IsObjectAt cs at). o)
    (λ (o : object_at cs at ≡ no_cell). let m = rw o at l in absurd (omega arith))
    (object_or_none cs at)

pub object_with_int : (cs : List Cell) (at k : ℕ) → k < length (object_at cs at).ints → IsObjectAt cs at
object_with_int cs at k l =
    ⊎_elim (λ (o : IsObjectAt cs at). o)
    (λ (o : object_at cs at ≡ no_cell). let m = rw o at l in absurd (omega arith))
    (object_or_none cs at)

pub IsObjectAt-put_same : (cs : List Cell) (at : ℕ) (d : Cell) → IsCellAt cs at → IsObject d.mark → IsObjectAt (put_cell cs at d) at
IsObjectAt-put_same cs at d o h = rw (cell_at-put_same cs at d o) h

-- ---- how calls change the object at an offset

pub size_of-with_ref : (c : Cell) (k : ℕ) (r : Option Addr) → size_of (with_ref c k r) ≡ size_of c
size_of-with_ref c k r = simp length-set

pub size_of-with_int : (c : Cell) (k : ℕ) (z : ℤ) → size_of (cell_with_int c k z) ≡ size_of c
size_of-with_int c k z = simp length-set

-- a change that keeps the mark is one of the object
marked_refs : (m : Mark) (c : Cell) (k : ℕ) (r : Option Addr) → (marked_object m (with_ref c k r)).refs ≡ slice_set (marked_object m c).refs k r
marked_refs (Born b) c k r = refl
marked_refs (Moved to) c k r = refl
marked_refs Hole c k r = refl

-- one reference written: that of the object, if there is one
pub refs-put_same : (cs : List Cell) (at k : ℕ) (r : Option Addr) →
    (object_at (put_cell cs at (with_ref (cell_at cs at) k r)) at).refs ≡ slice_set (object_at cs at).refs k r
refs-put_same cs at k r =
    ⊎_elim
    (λ (o : IsCellAt cs at).
    ap (λ (c : Cell). (as_object c).refs) (cell_at-put_same cs at (with_ref (cell_at cs at) k r) o)
    ∙ marked_refs (cell_at cs at).mark (cell_at cs at) k r)
    (λ (o : (IsCellAt cs at → ⊥) × (cell_at cs at ≡ no_cell)).
    rw (put_nowhere cs at (with_ref (cell_at cs at) k r) o.0, o.1))
    (cell_or_none cs at)
