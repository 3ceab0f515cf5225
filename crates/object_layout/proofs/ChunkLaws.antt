-- Laws of objects by their addresses: where a chunk is found, and what is at an address after a put or a push.
use Rattle.std.proofs.Common.{length-set}
use Rattle.object_layout.proofs.Common.{◌≡◌, ℕ, zero, suc, ◌<◌, ◌≤◌, true, false, List, [], ◌∷◌, ◌++◌, length, get_or, set, refl, sym, ap, subst, ◌∙◌, arith, ⊎_elim, inl, inr, ◌⊎◌, eqb, one-add, ◌≢◌, Option, Some, None, slice_set, cases_Bool, cases_eq, cases_lt, eqb-true, le-ltb, lt-ltb, get_or-set_same, Addr, Cell, Mark, Born, Moved, Hole, IsBorn, IsObject, as_object, no_cell, with_ref, size_of, ChunkValue, cell_at, put_cell, cell_of, chunk_at, next_address, object_of, place_in, chunk_position, push_object, put_object, with_cell}
use Rattle.object_layout.proofs.PlaceLemmas as place
use Rattle.object_layout.proofs.PlaceLemmas.{object_of_born}

-- ---- where a chunk is found

-- the position at which a chunk is found
pub place_found : (ks : List ChunkValue) (n i : ℕ) → place_in ks n ≡ Some i → (i ≡ chunk_position ks n) × (i < length ks)
place_found ks n i e =
    ⊎_elim
    (λ (l : chunk_position ks n < length ks). let f : Some (chunk_position ks n) ≡ Some i = rw (lt-ltb (chunk_position ks n) (length ks) l) at e in let g : chunk_position ks n ≡ i = cc in (sym g, rw (← g) l))
    (λ (l : length ks ≤ chunk_position ks n). let f = rw (le-ltb (chunk_position ks n) (length ks) l) at e in absurd (cc))
    (cases_lt (chunk_position ks n) (length ks))

pub place_there : (ks : List ChunkValue) (n : ℕ) → chunk_position ks n < length ks → place_in ks n ≡ Some (chunk_position ks n)
place_there ks n l = rw (lt-ltb (chunk_position ks n) (length ks) l) refl

pub none_there : (ks : List ChunkValue) (q : ℕ) → place_in ks q ≡ None → length ks ≤ chunk_position ks q
none_there ks q e =
    ⊎_elim
    (λ (l : chunk_position ks q < length ks). let f = rw (lt-ltb (chunk_position ks q) (length ks) l) at e in cc)
    (λ (l : length ks ≤ chunk_position ks q). l)
    (cases_lt (chunk_position ks q) (length ks))

-- the cell at an address is in the chunk that is found
pub cell_of-found : (ks : List ChunkValue) (a : Addr) (d : ChunkValue) → chunk_position ks a.chunk < length ks →
    cell_of ks a ≡ cell_at (get_or ks (chunk_position ks a.chunk) d).cells a.offset
cell_of-found [] a d l = absurd (omega arith)
cell_of-found (k ∷ ks) a d l =
    ⊎_elim
    (λ (e : eqb k.number a.chunk ≡ true). rw e)
    (λ (e : eqb k.number a.chunk ≡ false). let m = rw e at l in rw (e, one-add) (cell_of-found ks a d (omega arith)))
    (cases_Bool (eqb k.number a.chunk))

pub cell_of-none : (ks : List ChunkValue) (a : Addr) → length ks ≤ chunk_position ks a.chunk → cell_of ks a ≡ no_cell
cell_of-none [] a l = refl
cell_of-none (k ∷ ks) a l =
    ⊎_elim
    (λ (e : eqb k.number a.chunk ≡ true). let m = rw e at l in absurd (omega arith))
    (λ (e : eqb k.number a.chunk ≡ false). let m = rw e at l in rw e (cell_of-none ks a (omega arith)))
    (cases_Bool (eqb k.number a.chunk))

pub put_object-found : (ks : List ChunkValue) (a : Addr) (c : Cell) (d : ChunkValue) → chunk_position ks a.chunk < length ks →
    put_object ks a c ≡ set ks (chunk_position ks a.chunk) (with_cell (get_or ks (chunk_position ks a.chunk) d) a.offset c)
put_object-found [] a c d l = refl
put_object-found (k ∷ ks) a c d l =
    ⊎_elim
    (λ (e : eqb k.number a.chunk ≡ true). rw e)
    (λ (e : eqb k.number a.chunk ≡ false). let m = rw e at l in rw (e, one-add) (ap (λ (xs : List ChunkValue). k ∷ xs) (put_object-found ks a c d (omega arith))))
    (cases_Bool (eqb k.number a.chunk))

-- an object is in a chunk of the list
pub chunk_of_object : (ks : List ChunkValue) (a : Addr) → IsObject (cell_of ks a).mark → chunk_position ks a.chunk < length ks
chunk_of_object ks a o =
    ⊎_elim
    (λ (l : chunk_position ks a.chunk < length ks). l)
    (λ (l : length ks ≤ chunk_position ks a.chunk). absurd (rw (cell_of-none ks a l) at o))
    (cases_lt (chunk_position ks a.chunk) (length ks))

-- what has a birth name is an object
pub born_object : (ks : List ChunkValue) (a : Addr) → IsBorn (cell_of ks a).mark → IsObject (cell_of ks a).mark
born_object ks a h = object_of_born (cell_of ks a).mark h

-- an object is the cell that begins there
marked_is : (m : Mark) (c : Cell) → m ≡ c.mark → IsObject c.mark → as_object c ≡ c
marked_is (Born b) c e o = rw (← e) refl
marked_is (Moved to) c e o = rw (← e) refl
marked_is Hole c e o = absurd (rw (← e) at o)

pub object_is : (ks : List ChunkValue) (a : Addr) → IsObject (cell_of ks a).mark → object_of ks a ≡ cell_of ks a
object_is ks a o = marked_is (cell_of ks a).mark (cell_of ks a) refl o

-- there is no object at an address, or there is one
marked_cases : (m : Mark) (c : Cell) → m ≡ c.mark → IsObject c.mark ⊎ (as_object c ≡ no_cell)
marked_cases (Born b) c e = inl (rw (← e) tt)
marked_cases (Moved to) c e = inl (rw (← e) tt)
marked_cases Hole c e = inr (rw (← e) refl)

pub object_or_none : (ks : List ChunkValue) (a : Addr) → IsObject (cell_of ks a).mark ⊎ (object_of ks a ≡ no_cell)
object_or_none ks a = marked_cases (cell_of ks a).mark (cell_of ks a) refl

-- what has a field is an object
pub object_with_ref : (ks : List ChunkValue) (a : Addr) (k : ℕ) → k < length (object_of ks a).refs → IsObject (cell_of ks a).mark
object_with_ref ks a k l =
    ⊎_elim (λ (o : IsObject (cell_of ks a).mark). o)
    (λ (o : object_of ks a ≡ no_cell). let m = rw o at l in absurd (omega arith))
    (object_or_none ks a)

pub object_with_int : (ks : List ChunkValue) (a : Addr) (k : ℕ) → k < length (object_of ks a).ints → IsObject (cell_of ks a).mark
object_with_int ks a k l =
    ⊎_elim (λ (o : IsObject (cell_of ks a).mark). o)
    (λ (o : object_of ks a ≡ no_cell). let m = rw o at l in absurd (omega arith))
    (object_or_none ks a)

-- ---- what is at an address after a put

-- addresses with the same parts are the same
pub same_addr : (x y : Addr) → x.chunk ≡ y.chunk → x.offset ≡ y.offset → x ≡ y
same_addr x y e f =
    let one : x ≡ record { chunk = y.chunk; offset = x.offset } = ap (λ (n : ℕ). let r : Addr = record { chunk = n; offset = x.offset } in r) e in
    let two : record { chunk = y.chunk; offset = x.offset } ≡ y = ap (λ (n : ℕ). let r : Addr = record { chunk = y.chunk; offset = n } in r) f in
    one ∙ two

-- two addresses are equal or not
pub addr_cases : (a b : Addr) → (a ≡ b) ⊎ (a ≢ b)
addr_cases a b = elim (cases_eq a.chunk b.chunk) [
  | inl e ↦ elim (cases_eq a.offset b.offset) [
    | inl f ↦ inl (same_addr a b e f)
    | inr n ↦ inr (λ h. n (ap (λ (x : Addr). x.offset) h))
  ]
  | inr n ↦ inr (λ h. n (ap (λ (x : Addr). x.chunk) h))
]

-- other addresses are unchanged if the cell put there is as large as the old one
pub cell_of-put_other : (ks : List ChunkValue) (a b : Addr) (c : Cell) → size_of c ≡ size_of (cell_of ks a) → b ≢ a →
    cell_of (put_object ks a c) b ≡ cell_of ks b
cell_of-put_other [] a b c s ne = refl
cell_of-put_other (k ∷ ks) a b c s ne =
    ⊎_elim
    (λ (e : eqb k.number a.chunk ≡ true).
    rw e (⊎_elim
    (λ (f : eqb k.number b.chunk ≡ true).
    rw f (place.cell_at-put_other k.cells a.offset b.offset c (rw e at s)
    (λ o. ne (same_addr b a (sym (eqb-true k.number b.chunk f) ∙ eqb-true k.number a.chunk e) o))))
    (λ (f : eqb k.number b.chunk ≡ false). rw f)
    (cases_Bool (eqb k.number b.chunk))))
    (λ (e : eqb k.number a.chunk ≡ false).
    rw e (⊎_elim
    (λ (f : eqb k.number b.chunk ≡ true). rw f)
    (λ (f : eqb k.number b.chunk ≡ false). rw f (cell_of-put_other ks a b c (rw e at s) ne))
    (cases_Bool (eqb k.number b.chunk))))
    (cases_Bool (eqb k.number a.chunk))

-- what is put at an object's address is read there
pub cell_of-put_same : (ks : List ChunkValue) (a : Addr) (c : Cell) → IsObject (cell_of ks a).mark → cell_of (put_object ks a c) a ≡ c
cell_of-put_same [] a c o = absurd o
cell_of-put_same (k ∷ ks) a c o =
    ⊎_elim
    (λ (e : eqb k.number a.chunk ≡ true). let p = rw e at o in rw (e, e) (place.cell_at-put_same k.cells a.offset c (place.cell_of_object k.cells a.offset p)))
    (λ (e : eqb k.number a.chunk ≡ false). let p = rw e at o in rw (e, e) (cell_of-put_same ks a c p))
    (cases_Bool (eqb k.number a.chunk))

-- what was put is there, or there is neither an object nor a hole
cell_put : (cs : List Cell) (at : ℕ) (c : Cell) → (cell_at (put_cell cs at c) at ≡ c) ⊎ ((cell_at (put_cell cs at c) at ≡ cell_at cs at) × (cell_at cs at ≡ no_cell))
cell_put cs at c =
    elim (place.cell_or_none cs at) [
      | inl o ↦ inl (place.cell_at-put_same cs at c o)
      | inr o ↦ inr (ap (λ (xs : List Cell). cell_at xs at) (place.put_nowhere cs at c o.0), o.1)
    ]

pub put_cases : (h : List ChunkValue) (a : Addr) (c : Cell) → (cell_of (put_object h a c) a ≡ c) ⊎ ((cell_of (put_object h a c) a ≡ cell_of h a) × (cell_of h a ≡ no_cell))
put_cases [] a c = inr (refl, refl)
put_cases (k ∷ ks) a c =
    ⊎_elim
    (λ (e : eqb k.number a.chunk ≡ true). rw (e, e) (cell_put k.cells a.offset c))
    (λ (e : eqb k.number a.chunk ≡ false). rw (e, e) (put_cases ks a c))
    (cases_Bool (eqb k.number a.chunk))

-- marks are unchanged if the cell put there has the same mark and size
pub mark_put : (h : List ChunkValue) (x : Addr) (c : Cell) → c.mark ≡ (cell_of h x).mark → size_of c ≡ size_of (cell_of h x) → (a : Addr) → (cell_of (put_object h x c) a).mark ≡ (cell_of h a).mark
mark_put h x c m s a =
    elim (addr_cases x a) [
      | inl e ↦ subst (λ (y : Addr). (cell_of (put_object h x c) y).mark ≡ (cell_of h y).mark) e (elim (put_cases h x c) [
        | inl p ↦ ap (λ (d : Cell). d.mark) p ∙ m
        | inr p ↦ ap (λ (d : Cell). d.mark) p.0
      ])
      | inr n ↦ ap (λ (d : Cell). d.mark) (cell_of-put_other h x a c s (λ e. n (sym e)))
    ]

pub object_of-put_other : (ks : List ChunkValue) (a b : Addr) (c : Cell) → size_of c ≡ size_of (cell_of ks a) → b ≢ a →
    object_of (put_object ks a c) b ≡ object_of ks b
object_of-put_other ks a b c s ne = ap as_object (cell_of-put_other ks a b c s ne)

-- one reference written
pub refs-put_same : (ks : List ChunkValue) (a : Addr) (k : ℕ) (r : Option Addr) →
    (object_of (put_object ks a (with_ref (cell_of ks a) k r)) a).refs ≡ slice_set (object_of ks a).refs k r
refs-put_same [] a k r = refl
refs-put_same (x ∷ xs) a k r =
    ⊎_elim
    (λ (e : eqb x.number a.chunk ≡ true). rw (e, e) (place.refs-put_same x.cells a.offset k r))
    (λ (e : eqb x.number a.chunk ≡ false). rw (e, e) (refs-put_same xs a k r))
    (cases_Bool (eqb x.number a.chunk))

pub refs-put_other : (ks : List ChunkValue) (a b : Addr) (k : ℕ) (r : Option Addr) → b ≢ a →
    (object_of (put_object ks a (with_ref (cell_of ks a) k r)) b).refs ≡ (object_of ks b).refs
refs-put_other ks a b k r ne =
    ap (λ (c : Cell). c.refs) (object_of-put_other ks a b (with_ref (cell_of ks a) k r) (place.size_of-with_ref (cell_of ks a) k r) ne)

-- a put moves no chunk
pub place_of-put : (ks : List ChunkValue) (a : Addr) (c : Cell) (n : ℕ) → chunk_position (put_object ks a c) n ≡ chunk_position ks n
place_of-put [] a c n = refl
place_of-put (k ∷ ks) a c n =
    ⊎_elim
    (λ (e : eqb k.number a.chunk ≡ true). rw e)
    (λ (e : eqb k.number a.chunk ≡ false). rw (e, place_of-put ks a c n))
    (cases_Bool (eqb k.number a.chunk))

pub length-put : (ks : List ChunkValue) (a : Addr) (c : Cell) → length (put_object ks a c) ≡ length ks
length-put [] a c = refl
length-put (k ∷ ks) a c =
    ⊎_elim
    (λ (e : eqb k.number a.chunk ≡ true). rw e)
    (λ (e : eqb k.number a.chunk ≡ false). rw (e, length-put ks a c))
    (cases_Bool (eqb k.number a.chunk))

pub place_in-put : (ks : List ChunkValue) (a : Addr) (c : Cell) (n : ℕ) → place_in (put_object ks a c) n ≡ place_in ks n
place_in-put ks a c n = rw (place_of-put ks a c n, length-put ks a c)

-- of two cells put at one address the second stays
pub put_object-put_object : (ks : List ChunkValue) (a : Addr) (c d : Cell) → put_object (put_object ks a c) a d ≡ put_object ks a d
put_object-put_object [] a c d = refl
put_object-put_object (k ∷ ks) a c d =
    ⊎_elim
    (λ (e : eqb k.number a.chunk ≡ true). rw (e, e) (ap (λ (cs : List Cell). record k { cells = cs } ∷ ks) (place.put_cell-put_cell k.cells a.offset c d)))
    (λ (e : eqb k.number a.chunk ≡ false). rw (e, e) (ap (λ (xs : List ChunkValue). k ∷ xs) (put_object-put_object ks a c d)))
    (cases_Bool (eqb k.number a.chunk))

-- ---- what is at an address after a push

pub cell_of-push_other : (ks : List ChunkValue) (i : ℕ) (c : Cell) (b : Addr) → b ≢ next_address (chunk_at ks i) → cell_of (push_object ks i c) b ≡ cell_of ks b
cell_of-push_other [] i c b ne = refl
cell_of-push_other (k ∷ ks) zero c b ne =
    ⊎_elim
    (λ (e : eqb k.number b.chunk ≡ true). rw e (place.cell_at-push_other k.cells c b.offset (λ h. ne (same_addr b (next_address k) (sym (eqb-true k.number b.chunk e)) h))))
    (λ (e : eqb k.number b.chunk ≡ false). rw e)
    (cases_Bool (eqb k.number b.chunk))
cell_of-push_other (k ∷ ks) (suc i) c b ne =
    ⊎_elim
    (λ (e : eqb k.number b.chunk ≡ true). rw e)
    (λ (e : eqb k.number b.chunk ≡ false). rw e (cell_of-push_other ks i c b ne))
    (cases_Bool (eqb k.number b.chunk))
