-- The chunks after a sweep: what they are, and what is read in them.
use Rattle.mark_sweep_gc.proofs.Common.{◌≡◌, ℕ, zero, suc, ◌+◌, ◌*◌, ◌<◌, ◌≤◌, Bool, true, false, cond, one-add, List, [], ◌∷◌, length, map, filter, refl, sym, ap, ◌∙◌, subst, arith, ◌⊎◌, inl, inr, eqb, Option, Some, None, All, ◌||◌, nat_lt, cases_Bool, eq-eqb, eqb-true, ne_eqb, or_parts, length-map, All-cons, All-filter, All-head, All-map, All-tail, All-weaker, Addr, Cell, IsBorn, IsObject, Mark, Born, Moved, Hole, as_object, marked_object, moved_to, no_cell, size_of, ChunkValue, cell_at, cell_of, chunk_at, object_of, chunk_position, HasObjectAt, In, contains_from_in, in_from_contains, in_take, HaveDistinctNumbers, IsCurrent, IsFresh, IsReserved, IsSettled, IsTidy, units, fresh_at, fresh_cons, fresh_head, fresh_tail, none_there, AllMarkedIsDone, SweptChunksHold, SweptAreRead, SweptIsSnapshot, has_address, marked_of, IsInSnapshot, has_number, has_object, chunk_number_at, place_at, stays, swept, swept_cell, swept_cells, swept_chunk}
use Rattle.object_layout.proofs.ChunkLaws as laws
use Rattle.mark_sweep_gc.proofs.Addresses.{has_in, in_has}
use Rattle.mark_sweep_gc.proofs.Giving.{apart_filtered, fresh_filtered}
use Rattle.mark_sweep_gc.proofs.Marked.{all_found_marked}
use Rattle.mark_sweep_gc.proofs.Sweeping.{none_read, read_swept, size_swept}

-- ---- numbers

module _ (f : ChunkValue → ChunkValue) (number : (k : ChunkValue) → (f k).number ≡ k.number) where
  fresh_mapped : (ks : List ChunkValue) (n : ℕ) → IsFresh ks n → IsFresh (map f ks) n
  fresh_mapped [] n h = h
  fresh_mapped (k ∷ ks) n h = fresh_cons (f k) (map f ks) n (λ e. fresh_head k ks n h (sym (number k) ∙ e)) (fresh_mapped ks n (fresh_tail k ks n h))

  apart_mapped : (ks : List ChunkValue) → HaveDistinctNumbers ks → HaveDistinctNumbers (map f ks)
  apart_mapped [] a = a
  apart_mapped (k ∷ ks) a = (subst (IsFresh (map f ks)) (sym (number k)) (fresh_mapped ks k.number a.0), apart_mapped ks a.1)

  module _ (p : ChunkValue → Bool) where
    abbrev Left : List ChunkValue → List ChunkValue
    Left ks = map f (filter p ks)

    fresh_in : (ks : List ChunkValue) (n : ℕ) → IsFresh ks n → IsFresh (Left ks) n
    fresh_in ks n h = fresh_mapped (filter p ks) n (fresh_filtered p ks n h)

    -- the remainder of the chunk at a position
    at_number : (ks : List ChunkValue) → HaveDistinctNumbers ks → (i : ℕ) → i < length ks → chunk_position (Left ks) (chunk_at ks i).number < length (Left ks) → chunk_at (Left ks) (chunk_position (Left ks) (chunk_at ks i).number) ≡ f (chunk_at ks i)
    at_number [] a i l there = absurd (omega arith)
    at_number (k ∷ ks) a zero l there = first (p k) there
      where
        first : (b : Bool) → chunk_position (map f (cond b (k ∷ filter p ks) (filter p ks))) k.number < length (map f (cond b (k ∷ filter p ks) (filter p ks))) →
            chunk_at (map f (cond b (k ∷ filter p ks) (filter p ks))) (chunk_position (map f (cond b (k ∷ filter p ks) (filter p ks))) k.number) ≡ f k
        first true t = rw (eq-eqb (f k).number k.number (number k)) refl
        first false t = let n : length (Left ks) ≤ chunk_position (Left ks) k.number = none_there (Left ks) k.number (fresh_in ks k.number a.0) in absurd (omega arith)
    at_number (k ∷ ks) a (suc i) l there = later (at_number ks a.1 i (omega arith)) (p k) there
      where
        other : (f k).number ≡ (chunk_at ks i).number → ⊥
        other e = fresh_at ks k.number a.0 i (record { number = 0; size = 0; cells = [] }) (omega arith) (sym (sym (number k) ∙ e))

        later : (chunk_position (Left ks) (chunk_at ks i).number < length (Left ks) → chunk_at (Left ks) (chunk_position (Left ks) (chunk_at ks i).number) ≡ f (chunk_at ks i)) → (b : Bool) → chunk_position (map f (cond b (k ∷ filter p ks) (filter p ks))) (chunk_at ks i).number < length (map f (cond b (k ∷ filter p ks) (filter p ks))) →
            chunk_at (map f (cond b (k ∷ filter p ks) (filter p ks))) (chunk_position (map f (cond b (k ∷ filter p ks) (filter p ks))) (chunk_at ks i).number) ≡ f (chunk_at ks i)
        later rest true t = let m = rw (ne_eqb (f k).number (chunk_at ks i).number other) at t in rw (ne_eqb (f k).number (chunk_at ks i).number other, one-add) (rest (omega arith))
        later rest false t = rest t

    pub left_apart : (ks : List ChunkValue) → HaveDistinctNumbers ks → HaveDistinctNumbers (Left ks)
    left_apart ks a = apart_mapped (filter p ks) (apart_filtered p ks a)

    count_left : (ks : List ChunkValue) → length (filter p ks) ≤ length ks
    count_left [] = omega arith
    count_left (k ∷ ks) = step (p k) (count_left ks)
      where
        step : (b : Bool) → length (filter p ks) ≤ length ks → length (cond b (k ∷ filter p ks) (filter p ks)) ≤ length (k ∷ ks)
        step true l = omega arith
        step false l = omega arith

    pub left_count : (ks : List ChunkValue) → length (Left ks) ≤ length ks
    left_count ks = let n : length (map f (filter p ks)) ≡ length (filter p ks) = length-map (filter p ks) f in let c = count_left ks in omega arith

    -- what holds of the chunk at a position after it is swept, holds at its new position
    at_place : (P : ChunkValue → Type 0) (ks : List ChunkValue) → HaveDistinctNumbers ks → (i : ℕ) → i < length ks → P (f (chunk_at ks i)) → (b : Bool) → nat_lt (chunk_position (Left ks) (chunk_at ks i).number) (length (Left ks)) ≡ b →
        (chunk_position (Left ks) (chunk_at ks i).number < length (Left ks) → P (chunk_at (Left ks) (chunk_position (Left ks) (chunk_at ks i).number)))
    at_place P ks a i l h b e there = subst P (sym (at_number ks a i l there)) h

-- ---- the heap is settled, with its positions

module _ (kept : List Addr) (reserved : Option ℕ) (ks : List ChunkValue) (settled : IsSettled ks) where
  abbrev Now : List ChunkValue
  Now = map (swept_chunk kept) (filter (stays kept reserved) ks)

  pub now_apart : HaveDistinctNumbers (map (swept_chunk kept) (filter (stays kept reserved) ks))
  now_apart = left_apart (swept_chunk kept) (λ k. refl) (stays kept reserved) ks settled.apart

  pub now_count : length (map (swept_chunk kept) (filter (stays kept reserved) ks)) ≤ length ks
  now_count = left_count (swept_chunk kept) (λ k. refl) (stays kept reserved) ks

  current_by : (i : ℕ) → i < length ks → (chunk_at ks i).size ≡ 1024 → (b : Bool) → nat_lt (chunk_position Now (chunk_at ks i).number) (length Now) ≡ b → IsCurrent Now (cond b (Some (chunk_position Now (chunk_at ks i).number)) None)
  current_by i l s true e =
      let there : chunk_position Now (chunk_at ks i).number < length Now = grind arith in
      (there, ap (λ (k : ChunkValue). k.size) (at_number (swept_chunk kept) (λ k. refl) (stays kept reserved) ks settled.apart i l there) ∙ s)
  current_by i l s false e = tt

  pub now_current : (o : Option ℕ) → IsCurrent ks o → IsCurrent (map (swept_chunk kept) (filter (stays kept reserved) ks)) (place_at (map (swept_chunk kept) (filter (stays kept reserved) ks)) (chunk_number_at ks o))
  now_current None c = tt
  now_current (Some i) c = current_by i c.0 c.1 (nat_lt (chunk_position Now (chunk_at ks i).number) (length Now)) refl

  reserved_by : (i : ℕ) → i < length ks → 1024 < (chunk_at ks i).size → (chunk_at ks i).cells ≡ [] → (b : Bool) → nat_lt (chunk_position Now (chunk_at ks i).number) (length Now) ≡ b → IsReserved Now (cond b (Some (chunk_position Now (chunk_at ks i).number)) None)
  reserved_by i l s none true e =
      let there : chunk_position Now (chunk_at ks i).number < length Now = grind arith in
      let same : chunk_at Now (chunk_position Now (chunk_at ks i).number) ≡ swept_chunk kept (chunk_at ks i) = at_number (swept_chunk kept) (λ k. refl) (stays kept reserved) ks settled.apart i l there in
      (there, (subst (λ (n : ℕ). 1024 < n) (sym (ap (λ (k : ChunkValue). k.size) same)) s, ap (λ (k : ChunkValue). k.cells) same ∙ ap (swept_cells kept (chunk_at ks i).number 0) none))
  reserved_by i l s none false e = tt

  pub now_reserved : (o : Option ℕ) → IsReserved ks o → IsReserved (map (swept_chunk kept) (filter (stays kept reserved) ks)) (place_at (map (swept_chunk kept) (filter (stays kept reserved) ks)) (chunk_number_at ks o))
  now_reserved None c = tt
  now_reserved (Some i) c = reserved_by i c.0 c.1.0 c.1.1 (nat_lt (chunk_position Now (chunk_at ks i).number) (length Now)) refl

  swept_count : (n at : ℕ) (cs : List Cell) → length (swept_cells kept n at cs) ≡ length cs
  swept_count n at [] = refl
  swept_count n at (c ∷ cs) = ap (λ (m : ℕ). suc m) (swept_count n (at + size_of c) cs)

  swept_unmoved : (b : Bool) (c : Cell) → moved_to c.mark ≡ None → moved_to (swept_cell b c).mark ≡ None
  swept_unmoved true c e = e
  swept_unmoved false c e = refl

  cells_unmoved : (n at : ℕ) (cs : List Cell) → All (λ c. moved_to c.mark ≡ None) cs → All (λ c. moved_to c.mark ≡ None) (swept_cells kept n at cs)
  cells_unmoved n at [] a = a
  cells_unmoved n at (c ∷ cs) a =
      All-cons (λ (d : Cell). moved_to d.mark ≡ None) (swept_cell (has_address kept (record { chunk = n; offset = at })) c) (swept_cells kept n (at + size_of c) cs)
      (swept_unmoved (has_address kept (record { chunk = n; offset = at })) c (All-head (λ (d : Cell). moved_to d.mark ≡ None) c cs a))
      (cells_unmoved n (at + size_of c) cs (All-tail (λ (d : Cell). moved_to d.mark ≡ None) c cs a))

  cells_sized : (P : ℕ → Type 0) (n at : ℕ) (cs : List Cell) → All (λ c. P (size_of c)) cs → All (λ c. P (size_of c)) (swept_cells kept n at cs)
  cells_sized P n at [] a = a
  cells_sized P n at (c ∷ cs) a =
      All-cons (λ (d : Cell). P (size_of d)) (swept_cell (has_address kept (record { chunk = n; offset = at })) c) (swept_cells kept n (at + size_of c) cs)
      (subst P (sym (size_swept (has_address kept (record { chunk = n; offset = at })) c)) (All-head (λ (d : Cell). P (size_of d)) c cs a))
      (cells_sized P n (at + size_of c) cs (All-tail (λ (d : Cell). P (size_of d)) c cs a))

  swept_tidy : (k : ChunkValue) → IsTidy k → IsTidy (swept_chunk kept k)
  swept_tidy k t = record {
    unmoved = cells_unmoved k.number 0 k.cells t.unmoved;
    alone =
        subst (λ (n : ℕ). All (λ (c : Cell). 1024 < size_of c → n ≡ 1) (swept_cells kept k.number 0 k.cells)) (sym (swept_count k.number 0 k.cells))
        (cells_sized (λ m. 1024 < m → length k.cells ≡ 1) k.number 0 k.cells t.alone);
    exact = cells_sized (λ m. 1024 < m → k.size ≡ 1024 * units m) k.number 0 k.cells t.exact;
    few = λ l. subst (λ (n : ℕ). n ≤ 1) (sym (swept_count k.number 0 k.cells)) (t.few l);
  }

  pub now_settled : IsSettled (map (swept_chunk kept) (filter (stays kept reserved) ks))
  now_settled = record {
    tidy = All-map IsTidy (swept_chunk kept) (filter (stays kept reserved) ks)
        (All-weaker IsTidy (λ (k : ChunkValue). IsTidy (swept_chunk kept k)) swept_tidy (filter (stays kept reserved) ks) (All-filter (stays kept reserved) IsTidy ks settled.tidy));
    apart = now_apart;
  }

-- ---- what is read

as_swept : (b : Bool) (c : Cell) → as_object (swept_cell b c) ≡ cond b (as_object c) no_cell
as_swept true c = refl
as_swept false c = refl

nowhere : (ks : List ChunkValue) (a : Addr) → IsFresh ks a.chunk → cell_of ks a ≡ no_cell
nowhere ks a f = laws.cell_of-none ks a (none_there ks a.chunk f)

module _ (kept : List Addr) (reserved : Option ℕ) (a : Addr) where
  in_chunk : (k : ChunkValue) → k.number ≡ a.chunk → as_object (cell_at (swept_cells kept k.number 0 k.cells) a.offset) ≡ cond (has_address kept a) (as_object (cell_at k.cells a.offset)) no_cell
  in_chunk k q =
      let z : a.offset ≡ 0 + a.offset = omega arith in
      let here : record { chunk = k.number; offset = a.offset } ≡ a = (λ i. record { chunk = q i; offset = a.offset }) in
      ap as_object (read_swept kept k.number 0 k.cells a.offset a.offset z)
      ∙ (as_swept (has_address kept (record { chunk = k.number; offset = a.offset })) (cell_at k.cells a.offset)
      ∙ ap (λ (b : Addr). cond (has_address kept b) (as_object (cell_at k.cells a.offset)) no_cell) here)

  read_left : (ks : List ChunkValue) → HaveDistinctNumbers ks → as_object (cell_of (map (swept_chunk kept) (filter (stays kept reserved) ks)) a) ≡ cond (has_address kept a) (as_object (cell_of ks a)) no_cell
  read_left [] p = both (has_address kept a)
    where
      both : (b : Bool) → no_cell ≡ cond b no_cell no_cell
      both true = refl
      both false = refl
  read_left (k ∷ ks) p =
      elim (cases_Bool (eqb k.number a.chunk)) [
        | inl e ↦ rw e (first (eqb-true k.number a.chunk e) (stays kept reserved k) refl)
        | inr e ↦ rw e (other e (read_left ks p.1) (stays kept reserved k))
      ]
    where
      first : k.number ≡ a.chunk → (b : Bool) → b ≡ stays kept reserved k →
          as_object (cell_of (map (swept_chunk kept) (cond b (k ∷ filter (stays kept reserved) ks) (filter (stays kept reserved) ks))) a) ≡ cond (has_address kept a) (as_object (cell_at k.cells a.offset)) no_cell
      first q true s = rw (eq-eqb k.number a.chunk q) (in_chunk k q)
      first q false s =
          let f : IsFresh ks a.chunk = subst (IsFresh ks) q p.0 in
          let out : cell_of (map (swept_chunk kept) (filter (stays kept reserved) ks)) a ≡ no_cell = nowhere (map (swept_chunk kept) (filter (stays kept reserved) ks)) a (fresh_in (swept_chunk kept) (λ k. refl) (stays kept reserved) ks a.chunk f) in
          ap as_object out
          ∙ (sym (none_read (swept_cells kept k.number 0 k.cells) a.offset (or_parts (has_number reserved k) (has_object (swept_cells kept k.number 0 k.cells)) (sym s)).1)
          ∙ in_chunk k q)

      other : eqb k.number a.chunk ≡ false → as_object (cell_of (map (swept_chunk kept) (filter (stays kept reserved) ks)) a) ≡ cond (has_address kept a) (as_object (cell_of ks a)) no_cell → (b : Bool) →
          as_object (cell_of (map (swept_chunk kept) (cond b (k ∷ filter (stays kept reserved) ks) (filter (stays kept reserved) ks))) a) ≡ cond (has_address kept a) (as_object (cell_of ks a)) no_cell
      other e rest true = rw e rest
      other e rest false = rest

pub swept_are_read : SweptAreRead
swept_are_read h kept apart a = read_left kept (chunk_number_at h.chunks h.reserved) a h.chunks apart

object_held : (c : Cell) → IsBorn (as_object c).mark → IsBorn c.mark
object_held c = by_mark c.mark refl
  where
    by_mark : (m : Mark) → m ≡ c.mark → IsBorn (as_object c).mark → IsBorn c.mark
    by_mark (Born b) q o = subst IsBorn q tt
    by_mark (Moved to) q o = subst (λ (n : Mark). IsBorn (marked_object n c).mark) (sym q) o
    by_mark Hole q o = absurd (subst (λ (n : Mark). IsBorn (marked_object n c).mark) (sym q) o)

held_object : (c : Cell) → IsObject c.mark → IsObject (as_object c).mark
held_object c = by_mark c.mark refl
  where
    by_mark : (m : Mark) → m ≡ c.mark → IsObject c.mark → IsObject (as_object c).mark
    by_mark (Born b) q o = subst (λ (n : Mark). IsObject (marked_object n c).mark) q o
    by_mark (Moved to) q o = subst (λ (n : Mark). IsObject (marked_object n c).mark) q o
    by_mark Hole q o = absurd (subst IsObject (sym q) o)

pub swept_is_snapshot : SweptIsSnapshot
swept_is_snapshot f kept m h apart own is all a =
    let read = swept_are_read h (marked_of m) apart a in (
      λ held. by_test (has_address (marked_of m) a) refl (subst (λ (c : Cell). IsObject c.mark) read (held_object (cell_of (swept h (marked_of m)).chunks a) held)),
      λ s.
          let i = in_from_contains (marked_of m) a (all a s) in
          let here : HasObjectAt h.chunks a = own.room.each a (contains_from_in m.found a (in_take m.marked m.found a i)) in
          let same : object_of (swept h (marked_of m)).chunks a ≡ object_of h.chunks a = read ∙ ap (λ (b : Bool). cond b (object_of h.chunks a) no_cell) (in_has (marked_of m) a i) in
          object_held (cell_of (swept h (marked_of m)).chunks a) (subst (λ (c : Cell). IsBorn c.mark) (sym same) (subst (λ (c : Cell). IsBorn c.mark) (sym (laws.object_is h.chunks a (laws.born_object h.chunks a here))) here)),
    )
  where
    by_test : (b : Bool) → b ≡ has_address (marked_of m) a → IsObject (cond b (object_of h.chunks a) no_cell).mark → IsInSnapshot f kept a
    by_test true q o = is.each a (contains_from_in m.found a (in_take m.marked m.found a (has_in (marked_of m) a (sym q))))
    by_test false q o = absurd o

pub all_marked_is_done : AllMarkedIsDone
all_marked_is_done f kept m h own is all = all_found_marked f kept h m own is all

each_left : (kept : List Addr) (reserved : Option ℕ) (ks : List ChunkValue) (k : ChunkValue) → In (map (swept_chunk kept) (filter (stays kept reserved) ks)) k → (has_object k.cells ≡ true) ⊎ (has_number reserved k ≡ true)
each_left kept reserved [] k i = absurd i
each_left kept reserved (x ∷ ks) k i = step (each_left kept reserved ks k) (stays kept reserved x) refl i
  where
    either : (b c : Bool) → (b || c) ≡ true → (c ≡ true) ⊎ (b ≡ true)
    either true c e = inr refl
    either false c e = inl e

    step : (In (map (swept_chunk kept) (filter (stays kept reserved) ks)) k → (has_object k.cells ≡ true) ⊎ (has_number reserved k ≡ true)) → (b : Bool) → b ≡ stays kept reserved x → In (map (swept_chunk kept) (cond b (x ∷ filter (stays kept reserved) ks) (filter (stays kept reserved) ks))) k → (has_object k.cells ≡ true) ⊎ (has_number reserved k ≡ true)
    step rest true q (inl e) = subst (λ (y : ChunkValue). (has_object y.cells ≡ true) ⊎ (has_number reserved y ≡ true)) e (by_number reserved (either (has_number reserved x) (has_object (swept_chunk kept x).cells) (sym q)))
      where
        by_number : (r : Option ℕ) → (has_object (swept_chunk kept x).cells ≡ true) ⊎ (has_number r x ≡ true) → (has_object (swept_chunk kept x).cells ≡ true) ⊎ (has_number r (swept_chunk kept x) ≡ true)
        by_number None s = s
        by_number (Some n) s = s
    step rest true q (inr j) = rest j
    step rest false q j = rest j

pub swept_chunks_hold : SweptChunksHold
swept_chunks_hold h kept k c = each_left kept (chunk_number_at h.chunks h.reserved) h.chunks k (in_from_contains _ k c)
