-- References updated in a chunk and in a heap.
use Rattle.copying_gc.proofs.Common.{◌≡◌, ℕ, zero, suc, ◌+◌, ◌-◌, ◌<◌, ◌≤◌, List, [], ◌∷◌, map, refl, sym, ap, ◌∙◌, subst, arith, length, inl, inr, Some, None, Option, slice_get, All, eqb, cases_Bool, le-leb, length-map, all_at, Addr, Cell, IsObject, size_of, with_ref, ChunkValue, cell_at, object_at, put_cell, words_in, IsCellAt, IsObjectAt, cell_of, object_of, put_object, length-put, mark_put, place_of-put, put_object-put_object, IsTarget, led_cell, followed, followed_ref}
use Rattle.object_layout.proofs.PlaceLemmas as place
use Rattle.object_layout.proofs.ChunkLaws as laws
use Rattle.copying_gc.proofs.Upto as upto
use Rattle.copying_gc.proofs.Upto.{led_upto}

pub size_led : (f : Option Addr → Option Addr) (c : Cell) → size_of (led_cell f c) ≡ size_of c
size_led f c = let e = length-map c.refs f in omega arith

-- ---- an object of a chunk, up to reference k

module _ (f : Option Addr → Option Addr) (cs : List Cell) (at : ℕ) (o : IsObjectAt cs at) where
  pub none_yet : put_cell cs at (led_upto f 0 (cell_at cs at)) ≡ cs
  none_yet = place.put_cell-itself cs at

  module _ (k : ℕ) (l : k < length (cell_at cs at).refs) where
    now_cell : cell_at (put_cell cs at (led_upto f k (cell_at cs at))) at ≡ led_upto f k (cell_at cs at)
    now_cell = place.cell_at-put_same cs at (led_upto f k (cell_at cs at)) (place.cell_of_object cs at o)

    now_object : object_at (put_cell cs at (led_upto f k (cell_at cs at))) at ≡ led_upto f k (cell_at cs at)
    now_object = place.object_is (put_cell cs at (led_upto f k (cell_at cs at))) at (place.IsObjectAt-put_same cs at (led_upto f k (cell_at cs at)) (place.cell_of_object cs at o) o) ∙ now_cell

    pub field : k < length (object_at (put_cell cs at (led_upto f k (cell_at cs at))) at).refs
    field = let e = ap (λ (c : Cell). length c.refs) now_object in let n = upto.length-upto f (cell_at cs at) k (omega arith) in omega arith

    pub got : (r : Option Addr) → slice_get (object_at (put_cell cs at (led_upto f k (cell_at cs at))) at).refs k ≡ Some r → slice_get (led_upto f k (cell_at cs at)).refs k ≡ Some r
    got r e = ap (λ (c : Cell). slice_get c.refs k) (sym now_object) ∙ e

    pub more : (r : Option Addr) → slice_get (object_at (put_cell cs at (led_upto f k (cell_at cs at))) at).refs k ≡ Some r →
        put_cell (put_cell cs at (led_upto f k (cell_at cs at))) at (with_ref (cell_at (put_cell cs at (led_upto f k (cell_at cs at))) at) k (f r))
        ≡ put_cell cs at (led_upto f (k + 1) (cell_at cs at))
    more r e =
        ap (λ (c : Cell). put_cell (put_cell cs at (led_upto f k (cell_at cs at))) at (with_ref c k (f r))) now_cell
        ∙ (place.put_cell-put_cell cs at (led_upto f k (cell_at cs at)) (with_ref (led_upto f k (cell_at cs at)) k (f r))
        ∙ ap (put_cell cs at) (upto.upto_more f (cell_at cs at) k l r (got r e)))

    pub was : (r : Option Addr) → slice_get (object_at (put_cell cs at (led_upto f k (cell_at cs at))) at).refs k ≡ Some r → slice_get (cell_at cs at).refs k ≡ Some r
    was r e = upto.upto_read f (cell_at cs at) k l r (got r e)

-- ---- an object of the heap, up to reference k

module _ (h : List ChunkValue) (x : Addr) (c : Cell) (m : c.mark ≡ (cell_of h x).mark) (s : size_of c ≡ size_of (cell_of h x)) where
  followed_put : (a : Addr) → followed (put_object h x c) a ≡ followed h a
  followed_put a = rw (place_of-put h x c a.chunk, length-put h x c, mark_put h x c m s a) refl

  pub followed_ref_put : (r : Option Addr) → followed_ref (put_object h x c) r ≡ followed_ref h r
  followed_ref_put None = refl
  followed_ref_put (Some a) = followed_put a

  pub target_put : (r : Option Addr) → IsTarget h r → IsTarget (put_object h x c) r
  target_put None t = t
  target_put (Some a) t =
      λ l.
      let p = place_of-put h x c a.chunk in
      let n = length-put h x c in
      let w = t (omega arith) in
      (subst IsObject (sym (mark_put h x c m s a)) w.0, w.1)

module _ (h : List ChunkValue) (a : Addr) (o : IsObject (cell_of h a).mark) where
  put_itself : (ks : List ChunkValue) → put_object ks a (cell_of ks a) ≡ ks
  put_itself [] = refl
  put_itself (k ∷ ks) =
      elim (cases_Bool (eqb k.number a.chunk)) [
        | inl e ↦ rw (e, place.put_cell-itself k.cells a.offset) refl
        | inr e ↦ rw (e, put_itself ks) refl
      ]

  pub heap_none : put_object h a (led_upto (followed_ref h) 0 (cell_of h a)) ≡ h
  heap_none = put_itself h

  module _ (k : ℕ) (l : k < length (cell_of h a).refs) where
    pub heap_object : IsObject (cell_of (put_object h a (led_upto (followed_ref h) k (cell_of h a))) a).mark
    heap_object = subst IsObject (sym (ap (λ (c : Cell). c.mark) (laws.cell_of-put_same h a (led_upto (followed_ref h) k (cell_of h a)) o))) o

    heap_is : object_of (put_object h a (led_upto (followed_ref h) k (cell_of h a))) a ≡ led_upto (followed_ref h) k (cell_of h a)
    heap_is = laws.object_is (put_object h a (led_upto (followed_ref h) k (cell_of h a))) a heap_object ∙ laws.cell_of-put_same h a (led_upto (followed_ref h) k (cell_of h a)) o

    pub heap_cell : k < length (cell_of (put_object h a (led_upto (followed_ref h) k (cell_of h a))) a).refs
    heap_cell =
        let e = ap (λ (c : Cell). length c.refs) (laws.cell_of-put_same h a (led_upto (followed_ref h) k (cell_of h a)) o) in
        let n = upto.length-upto (followed_ref h) (cell_of h a) k (omega arith) in
        omega arith

    pub heap_read : (r : Option Addr) → slice_get (cell_of (put_object h a (led_upto (followed_ref h) k (cell_of h a))) a).refs k ≡ Some r → slice_get (object_of (put_object h a (led_upto (followed_ref h) k (cell_of h a))) a).refs k ≡ Some r
    heap_read r e = ap (λ (c : Cell). slice_get c.refs k) (laws.object_is (put_object h a (led_upto (followed_ref h) k (cell_of h a))) a heap_object) ∙ e

    pub heap_field : k < length (object_of (put_object h a (led_upto (followed_ref h) k (cell_of h a))) a).refs
    heap_field = let e = ap (λ (c : Cell). length c.refs) heap_is in let n = upto.length-upto (followed_ref h) (cell_of h a) k (omega arith) in omega arith

    module _ (r : Option Addr) (e : slice_get (object_of (put_object h a (led_upto (followed_ref h) k (cell_of h a))) a).refs k ≡ Some r) where
      heap_got : slice_get (led_upto (followed_ref h) k (cell_of h a)).refs k ≡ Some r
      heap_got = ap (λ (c : Cell). slice_get c.refs k) (sym heap_is) ∙ e

      pub heap_was : slice_get (cell_of h a).refs k ≡ Some r
      heap_was = upto.upto_read (followed_ref h) (cell_of h a) k l r heap_got

      pub heap_target : All (IsTarget h) (cell_of h a).refs → IsTarget (put_object h a (led_upto (followed_ref h) k (cell_of h a))) r
      heap_target all = target_put h a (led_upto (followed_ref h) k (cell_of h a)) refl (upto.size-upto (followed_ref h) (cell_of h a) k (omega arith)) r (all_at (IsTarget h) (cell_of h a).refs k r all heap_was)

      pub heap_more :
          put_object (put_object h a (led_upto (followed_ref h) k (cell_of h a))) a (with_ref (cell_of (put_object h a (led_upto (followed_ref h) k (cell_of h a))) a) k (followed_ref (put_object h a (led_upto (followed_ref h) k (cell_of h a))) r))
          ≡ put_object h a (led_upto (followed_ref h) (k + 1) (cell_of h a))
      heap_more =
          let now = put_object h a (led_upto (followed_ref h) k (cell_of h a)) in
          let same = followed_ref_put h a (led_upto (followed_ref h) k (cell_of h a)) refl (upto.size-upto (followed_ref h) (cell_of h a) k (omega arith)) r in
          ap (λ (v : Option Addr). put_object now a (with_ref (cell_of now a) k v)) same
          ∙ (ap (λ (c : Cell). put_object now a (with_ref c k (followed_ref h r))) (laws.cell_of-put_same h a (led_upto (followed_ref h) k (cell_of h a)) o)
          ∙ (put_object-put_object h a (led_upto (followed_ref h) k (cell_of h a)) (with_ref (led_upto (followed_ref h) k (cell_of h a)) k (followed_ref h r))
          ∙ ap (put_object h a) (upto.upto_more (followed_ref h) (cell_of h a) k l r heap_got)))

-- ---- the objects of a chunk, one after another

-- those before an offset
abbrev pub led_before : (Option Addr → Option Addr) → List Cell → ℕ → List Cell
led_before f cs zero = cs
led_before f [] (suc n) = []
led_before f (c ∷ cs) (suc n) = led_cell f c ∷ led_before f cs (suc n - size_of c)

module _ (f : Option Addr → Option Addr) where
  pub before_object : (cs : List Cell) (at : ℕ) → IsCellAt cs at → IsCellAt (led_before f cs at) at
  before_object [] at o = absurd o
  before_object (c ∷ cs) zero o = tt
  before_object (c ∷ cs) (suc n) o =
      let e = size_led f c in
      (let w : size_of c ≤ suc n = o.0 in omega arith, rw e (before_object cs (suc n - size_of c) o.1))

  pub before_cell : (cs : List Cell) (at : ℕ) → IsCellAt cs at → cell_at (led_before f cs at) at ≡ cell_at cs at
  before_cell [] at o = absurd o
  before_cell (c ∷ cs) zero o = refl
  before_cell (c ∷ cs) (suc n) o =
      let w : size_of c ≤ suc n = o.0 in
      rw (size_led f c, le-leb (size_of c) (suc n) w) (before_cell cs (suc n - size_of c) o.1)

  past : (c : Cell) (cs : List Cell) (p n : ℕ) → n ≡ size_of c + p → led_before f (c ∷ cs) n ≡ led_cell f c ∷ led_before f cs p
  past c cs p zero e = absurd (omega arith)
  past c cs p (suc n) e = let g : suc n - size_of c ≡ p = omega arith in rw g refl

  pub before_more : (cs : List Cell) (at : ℕ) → IsCellAt cs at →
      put_cell (led_before f cs at) at (led_cell f (cell_at (led_before f cs at) at)) ≡ led_before f cs (at + size_of (cell_at cs at))
  before_more [] at o = absurd o
  before_more (c ∷ cs) zero o = let e : zero + size_of c ≡ size_of c + 0 = omega arith in sym (past c cs 0 (zero + size_of c) e)
  before_more (c ∷ cs) (suc n) o =
      let w : size_of c ≤ suc n = o.0 in
      let e : suc n + size_of (cell_at cs (suc n - size_of c)) ≡ size_of c + ((suc n - size_of c) + size_of (cell_at cs (suc n - size_of c))) = omega arith in
      rw (size_led f c, le-leb (size_of c) (suc n) w)
      (ap (λ (xs : List Cell). led_cell f c ∷ xs) (before_more cs (suc n - size_of c) o.1)
      ∙ sym (past c cs _ _ e))

  pub before_all : (cs : List Cell) → led_before f cs (words_in cs) ≡ map (led_cell f) cs
  before_all [] = refl
  before_all (c ∷ cs) = past c cs (words_in cs) _ refl ∙ ap (λ (xs : List Cell). led_cell f c ∷ xs) (before_all cs)

  -- one more object
  module _ (k now after : ChunkValue) (at : ℕ) (o : IsCellAt k.cells at)
      (is : now ≡ record k { cells = led_before f k.cells at })
      (done : after ≡ record now { cells = put_cell now.cells at (led_cell f (cell_at now.cells at)) }) where
    now_cells : now.cells ≡ led_before f k.cells at
    now_cells = ap (λ (x : ChunkValue). x.cells) is

    pub begins_there : IsCellAt now.cells at
    begins_there = subst (λ (xs : List Cell). IsCellAt xs at) (sym now_cells) (before_object k.cells at o)

    pub cell_before : cell_at now.cells at ≡ cell_at k.cells at
    cell_before = ap (λ (xs : List Cell). cell_at xs at) now_cells ∙ before_cell k.cells at o

    pub after_is : (next : ℕ) → next ≡ at + size_of (cell_at k.cells at) → after ≡ record k { cells = led_before f k.cells next }
    after_is next e =
        done
        ∙ (ap (λ (x : ChunkValue). let r : ChunkValue = record x { cells = put_cell x.cells at (led_cell f (cell_at x.cells at)) } in r) is
        ∙ ap (λ (xs : List Cell). let r : ChunkValue = record k { cells = xs } in r) (before_more k.cells at o ∙ ap (led_before f k.cells) (sym e)))
