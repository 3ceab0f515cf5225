-- The objects that are read from cells, and the cells.
use Rattle.std.proofs.Common.{eq-eqb, ne_eqb}
use Rattle.object_layout.proofs.Common.{◌≡◌, ℕ, zero, suc, ◌+◌, ◌-◌, ◌<◌, ◌≤◌, ◌==◌, arith, Bool, true, false, cond, List, [], ◌∷◌, length, nat_le, inl, inr, refl, ap, sym, subst, ◌∙◌, cond-true, cond-false, eqb-true, leb-true, false≢true, In, any_from_in, contains_from_in, flat_in, got_in, in_flat, in_from_contains, Addr, Birth, Born, Cell, Hole, Mark, Moved, no_cell, size_of, ChunkValue, cell_of, chunk_at, has_chunk, HaveDistinctNumbers, cell_at, Located, located, located_by, objects_from, objects_in, objects_of, LiesThere, ObjectsLieThere}
use Rattle.object_layout.proofs.Owning.{found_any, fresh_none}
use Rattle.object_layout.proofs.PlaceLemmas.{cell_at-past}

-- ---- the cells of one chunk

pub behind : (number at : ℕ) (c : Cell) (m : Mark) (os : List Located) (o : Located) → In os o → In (located_by number at c m os) o
behind number at c (Born b) os o i = inr i
behind number at c (Moved to) os o i = i
behind number at c Hole os o i = i

pub first : (number at : ℕ) (c : Cell) (m : Mark) (b : Birth) (os : List Located) → m ≡ Born b → In (located_by number at c m os) (located number at b c)
first number at c m b os e = subst (λ z. In (located_by number at c z os) (located number at b c)) (sym e) (inl refl)

-- a cell with a name is read
pub cell_read : (cs : List Cell) (number base off at : ℕ) (b : Birth) → at ≡ base + off → (cell_at cs off).mark ≡ Born b → In (objects_from number base cs) (located number at b (cell_at cs off))
cell_read [] number base off at b ea e = absurd cc
cell_read (c ∷ cs) number base zero at b ea e =
    subst (λ n. In (objects_from number base (c ∷ cs)) (located number n b c)) (let q : base ≡ at = omega (arith, ea) in q) (first number base c c.mark b (objects_from number (base + size_of c) cs) e)
cell_read (c ∷ cs) number base (suc n) at b ea e = cell_read_by_cases (nat_le (size_of c) (suc n)) refl e (λ q h. cell_read cs number (base + size_of c) (suc n - size_of c) at b q h)
  where
    cell_read_by_cases : (v : Bool) → nat_le (size_of c) (suc n) ≡ v → (cond v (cell_at cs (suc n - size_of c)) no_cell).mark ≡ Born b
        → (at ≡ base + size_of c + (suc n - size_of c) → (cell_at cs (suc n - size_of c)).mark ≡ Born b → In (objects_from number (base + size_of c) cs) (located number at b (cell_at cs (suc n - size_of c))))
        → In (objects_from number base (c ∷ cs)) (located number at b (cond v (cell_at cs (suc n - size_of c)) no_cell))
    cell_read_by_cases false q h go = absurd cc
    cell_read_by_cases true q h go =
        let le : size_of c ≤ suc n = leb-true (size_of c) (suc n) q in
        behind number base c c.mark (objects_from number (base + size_of c) cs) _ (go (omega (arith, ea, le)) h)

-- what is read is a cell
record Found (number base : ℕ) (cs : List Cell) (o : Located) : Type 0 where
  off : ℕ
  birth : Birth
  mark : (cell_at cs off).mark ≡ Born birth
  is : o ≡ located number (base + off) birth (cell_at cs off)

found_behind : (number base : ℕ) (c : Cell) (cs : List Cell) (o : Located) → Found number (base + size_of c) cs o → Found number base (c ∷ cs) o
found_behind number base c cs o f =
    let e : cell_at (c ∷ cs) (size_of c + f.off) ≡ cell_at cs f.off = cell_at-past c cs f.off (size_of c + f.off) refl in
    let a : base + size_of c + f.off ≡ base + (size_of c + f.off) = omega arith in
    record {
      off = size_of c + f.off;
      birth = f.birth;
      mark = ap (λ (x : Cell). x.mark) e ∙ f.mark;
      is = f.is ∙ (ap (λ n. located number n f.birth (cell_at cs f.off)) a ∙ ap (located number (base + (size_of c + f.off)) f.birth) (sym e));
    }

read_cell : (cs : List Cell) (number base : ℕ) (o : Located) → In (objects_from number base cs) o → Found number base cs o
read_cell [] number base o i = absurd i
read_cell (c ∷ cs) number base o i = read_cell_by_cases c.mark refl i (read_cell cs number (base + size_of c) o)
  where
    read_cell_by_cases : (m : Mark) → c.mark ≡ m → In (located_by number base c m (objects_from number (base + size_of c) cs)) o → (In (objects_from number (base + size_of c) cs) o → Found number (base + size_of c) cs o) → Found number base (c ∷ cs) o
    read_cell_by_cases (Born b) e (inl q) go = record { off = 0; birth = b; mark = e; is = sym q ∙ ap (λ n. located number n b c) (let z : base ≡ base + 0 = omega arith in z) }
    read_cell_by_cases (Born b) e (inr j) go = found_behind number base c cs o (go j)
    read_cell_by_cases (Moved to) e j go = found_behind number base c cs o (go j)
    read_cell_by_cases Hole e j go = found_behind number base c cs o (go j)

-- ---- chunks

pub record InChunk (ks : List ChunkValue) (a : Addr) : Type 0 where
  pub chunk : ChunkValue
  pub there : In ks chunk
  pub number : chunk.number ≡ a.chunk
  pub cell : cell_of ks a ≡ cell_at chunk.cells a.offset

pub find_chunk : (ks : List ChunkValue) (a : Addr) (b : Birth) → (cell_of ks a).mark ≡ Born b → InChunk ks a
find_chunk [] a b e = absurd cc
find_chunk (k ∷ ks) a b e = find_chunk_by_cases (k.number == a.chunk) refl e (find_chunk ks a b)
  where
    find_chunk_by_cases : (v : Bool) → (k.number == a.chunk) ≡ v → (cond v (cell_at k.cells a.offset) (cell_of ks a)).mark ≡ Born b → ((cell_of ks a).mark ≡ Born b → InChunk ks a) → InChunk (k ∷ ks) a
    find_chunk_by_cases true q h go = record { chunk = k; there = inl refl; number = eqb-true k.number a.chunk q; cell = cond-true (k.number == a.chunk) (cell_at k.cells a.offset) (cell_of ks a) q }
    find_chunk_by_cases false q h go =
        let f = go h in
        record { chunk = f.chunk; there = inr f.there; number = f.number; cell = cond-false (k.number == a.chunk) (cell_at k.cells a.offset) (cell_of ks a) q ∙ f.cell }

-- an object at an address is read there
pub object_read : (ks : List ChunkValue) (a : Addr) (b : Birth) → (cell_of ks a).mark ≡ Born b → In (objects_in ks) (located a.chunk a.offset b (cell_of ks a))
object_read ks a b e =
    let f = find_chunk ks a b e in
    let m : (cell_at f.chunk.cells a.offset).mark ≡ Born b = ap (λ (x : Cell). x.mark) (sym f.cell) ∙ e in
    subst (λ n. In (objects_in ks) (located n a.offset b (cell_of ks a))) f.number
    (subst (λ (x : Cell). In (objects_in ks) (located f.chunk.number a.offset b x)) (sym f.cell)
    (in_flat objects_of ks f.chunk (located f.chunk.number a.offset b (cell_at f.chunk.cells a.offset)) f.there (cell_read f.chunk.cells f.chunk.number 0 a.offset a.offset b (omega arith) m)))

-- a chunk at a position of the list is in the list
pub chunk_there : (ks : List ChunkValue) (i : ℕ) → i < length ks → In ks (chunk_at ks i)
chunk_there [] i lt = absurd (omega arith)
chunk_there (k ∷ ks) zero lt = inl refl
chunk_there (k ∷ ks) (suc i) lt = inr (chunk_there ks i (omega arith))

-- a chunk of the list has its number there
pub has_own : (ks : List ChunkValue) (k : ChunkValue) (n : ℕ) → In ks k → k.number ≡ n → has_chunk ks n ≡ true
has_own ks k n i e = found_any ks n ∙ any_from_in (λ x. x.number == n) ks k i (eq-eqb k.number n e)

fresh_off : (ks : List ChunkValue) (k : ChunkValue) (n : ℕ) → has_chunk ks n ≡ false → In ks k → k.number ≡ n → ⊥
fresh_off ks k n f i e = false≢true (sym f ∙ has_own ks k n i e)

pub cell_in : (ks : List ChunkValue) (k : ChunkValue) (a : Addr) → HaveDistinctNumbers ks → In ks k → k.number ≡ a.chunk → cell_of ks a ≡ cell_at k.cells a.offset
cell_in [] k a A i q = absurd i
cell_in (y ∷ ys) k a A (inl e) q =
    cond-true (y.number == a.chunk) (cell_at y.cells a.offset) (cell_of ys a) (eq-eqb y.number a.chunk (ap (λ (x : ChunkValue). x.number) e ∙ q)) ∙ ap (λ (x : ChunkValue). cell_at x.cells a.offset) e
cell_in (y ∷ ys) k a A (inr i) q =
    cond-false (y.number == a.chunk) (cell_at y.cells a.offset) (cell_of ys a) (ne_eqb y.number a.chunk (λ z. fresh_off ys k y.number ((fresh_none ys y.number).0 A.0) i (q ∙ sym z)))
    ∙ cell_in ys k a A.1 i q

-- an object that is read is at its address
module _ (ks : List ChunkValue) (k : ChunkValue) (o : Located) (A : HaveDistinctNumbers ks) (i : In ks k) (f : Found k.number 0 k.cells o) where
  object_address : o.at ≡ record { chunk = k.number; offset = 0 + f.off }
  object_address = ap (λ (x : Located). x.at) f.is

  chunk : k.number ≡ o.at.chunk
  chunk = ap (λ (x : Addr). x.chunk) (sym object_address)

  offset : o.at.offset ≡ f.off
  offset = ap (λ (x : Addr). x.offset) object_address ∙ omega arith

  birth : o.birth ≡ f.birth
  birth = ap (λ (x : Located). x.birth) f.is

  cell : cell_of ks o.at ≡ cell_at k.cells f.off
  cell = cell_in ks k o.at A i chunk ∙ ap (cell_at k.cells) offset

  lies : LiesThere ks o
  lies = record {
    mark = ap (λ (x : Cell). x.mark) cell ∙ (f.mark ∙ ap Born (sym birth));
    is = f.is ∙ (ap (λ n. located n (0 + f.off) f.birth (cell_at k.cells f.off)) chunk
        ∙ (ap (λ n. located o.at.chunk n f.birth (cell_at k.cells f.off)) (omega (arith, offset))
        ∙ (ap (λ b. located o.at.chunk o.at.offset b (cell_at k.cells f.off)) (sym birth) ∙ ap (located o.at.chunk o.at.offset o.birth) (sym cell))));
  }

pub objects_lie_there : ObjectsLieThere
objects_lie_there ks A o = (
  (λ h.
      let c = flat_in objects_of ks o (in_from_contains (objects_in ks) o h) in
      lies ks c.1 o A (got_in ks c.0 c.1 c.2) (read_cell c.1.cells c.1.number 0 o c.3)),
  (λ h. contains_from_in (objects_in ks) o (subst (In (objects_in ks)) (sym h.is) (object_read ks o.at o.birth h.mark))),
)
