-- An object of a heap is written: what is read of the heap afterwards, and that it keeps its form.
use Rattle.core_invariant.proofs.Common.{◌≡◌, ℕ, ◌+◌, ◌-◌, ◌*◌, ◌/◌, ◌<◌, ◌≤◌, ◌==◌, arith, Bool, true, false, cond, Option, Some, None, List, [], ◌∷◌, All, length, map, inl, inr, refl, ap, ap₂, sym, subst, ◌∙◌, eq-eqb, cond-true, eqb-true, false≢true, length-map, All-cons, All-head, All-nil, All-tail, in_map, map_in, Addr, Born, Cell, Hole, Mark, Moved, moved_to, size_of, cell_of, chunk_at, put_object, same_address, with_cell, ChunkValue, cell_at, words_in, Located, changed_at, located_by, objects_from, objects_of, with_fields, length-put, put_changes_one, same_is, HaveDistinctNumbers, LeafHeapValue, IsTidy, room_at, room_of, units, Chunk, In, mapped_chunk, objects_of_chunks, put_at, in_chunk, in_objects, IsLastLarge, IsLastSmall, outline_of_cell, outline_of_chunk, outline_at, outline_size, written_outline, shape_written, OffsetsAreSmall, chunk_of, chunks_of, HeapForm}
use Rattle.core_invariant.proofs.CellsRead.{fresh_off, numbered}

-- ---- WHAT IS READ

-- objects elsewhere are unchanged
pub elsewhere : (a : Addr) (f : Located → Located) (os : List Located) → ((o : Located) → In os o → o.at ≡ a → ⊥) → map (put_at a f) os ≡ os
elsewhere a f [] h = refl
elsewhere a f (o ∷ os) h = ap₂ (λ x xs. x ∷ xs) (elsewhere_by_cases (same_address o.at a) refl) (elsewhere a f os (λ q i. h q (inr i)))
  where
    elsewhere_by_cases : (b : Bool) → same_address o.at a ≡ b → cond b (f o) o ≡ o
    elsewhere_by_cases true e = absurd (h o (inl refl) (same_is o.at a e))
    elsewhere_by_cases false e = refl

-- and so are those of other chunks, as a whole
pub chunks_elsewhere : (a : Addr) (f : Located → Located) (ks : List Chunk) → ((o : Located) → In (objects_of_chunks ks) o → o.at ≡ a → ⊥) → map (mapped_chunk (put_at a f)) ks ≡ ks
chunks_elsewhere a f [] h = refl
chunks_elsewhere a f (k ∷ ks) h =
    ap₂ (λ x xs. record k { objects = x } ∷ xs) (elsewhere a f k.objects (λ o i. h o (in_objects (k ∷ ks) k o (inl refl) i)))
    (chunks_elsewhere a f ks (λ o i. let c = in_chunk ks o i in h o (in_objects (k ∷ ks) c.0 o (inr c.1) c.2)))

-- two changes that agree on the object
pub put_same : (a : Addr) (f g : Located → Located) (os : List Located) → ((o : Located) → In os o → o.at ≡ a → f o ≡ g o) → map (put_at a f) os ≡ map (put_at a g) os
put_same a f g [] h = refl
put_same a f g (o ∷ os) h = ap₂ (λ x xs. x ∷ xs) (put_same_by_cases (same_address o.at a) refl) (put_same a f g os (λ q i. h q (inr i)))
  where
    put_same_by_cases : (b : Bool) → same_address o.at a ≡ b → cond b (f o) o ≡ cond b (g o) o
    put_same_by_cases true e = h o (inl refl) (same_is o.at a e)
    put_same_by_cases false e = refl

pub chunks_same : (a : Addr) (f g : Located → Located) (ks : List Chunk) → ((o : Located) → In (objects_of_chunks ks) o → o.at ≡ a → f o ≡ g o) → map (mapped_chunk (put_at a f)) ks ≡ map (mapped_chunk (put_at a g)) ks
chunks_same a f g [] h = refl
chunks_same a f g (k ∷ ks) h =
    ap₂ (λ x xs. record k { objects = x } ∷ xs) (put_same a f g k.objects (λ o i. h o (in_objects (k ∷ ks) k o (inl refl) i)))
    (chunks_same a f g ks (λ o i. let c = in_chunk ks o i in h o (in_objects (k ∷ ks) c.0 o (inr c.1) c.2)))

-- A CELL OF THE SAME MARK AND SIZE is put: the object there gets its fields
objects_put : (k : ChunkValue) (a : Addr) (d : Cell) → (k.number == a.chunk) ≡ true → (cell_at k.cells a.offset).mark ≡ d.mark → size_of (cell_at k.cells a.offset) ≡ size_of d
    → objects_of (with_cell k a.offset d) ≡ map (put_at a (with_fields d)) (objects_of k)
objects_put k a d e em es =
    let cell : cell_of (k ∷ []) a ≡ cell_at k.cells a.offset = cond-true (k.number == a.chunk) (cell_at k.cells a.offset) (cell_of [] a) e in
    let put : put_object (k ∷ []) a d ≡ with_cell k a.offset d ∷ [] = cond-true (k.number == a.chunk) (with_cell k a.offset d ∷ []) (k ∷ []) e in
    let all : objects_of (with_cell k a.offset d) ∷ [] ≡ map (changed_at a d) (objects_of k) ∷ [] =
    ap (map objects_of) (sym put) ∙ put_changes_one (k ∷ []) a d (refl, tt) (ap (λ (c : Cell). c.mark) cell ∙ em) (ap size_of cell ∙ es) in
    first_is (objects_of (with_cell k a.offset d)) (map (changed_at a d) (objects_of k)) all
  where
    first_is : (os qs : List Located) → os ∷ [] ≡ qs ∷ [] → os ≡ qs
    first_is os qs q = cc

pub chunks_put : (ks : List ChunkValue) (a : Addr) (d : Cell) → HaveDistinctNumbers ks → (cell_of ks a).mark ≡ d.mark → size_of (cell_of ks a) ≡ size_of d → chunks_of (put_object ks a d) ≡ map (mapped_chunk (put_at a (with_fields d))) (chunks_of ks)
chunks_put [] a d A em es = refl
chunks_put (k ∷ ks) a d A em es = chunks_put_by_cases (k.number == a.chunk) refl em es (chunks_put ks a d A.1)
  where
    chunks_put_by_cases : (b : Bool) → (k.number == a.chunk) ≡ b → (cond b (cell_at k.cells a.offset) (cell_of ks a)).mark ≡ d.mark → size_of (cond b (cell_at k.cells a.offset) (cell_of ks a)) ≡ size_of d
        → ((cell_of ks a).mark ≡ d.mark → size_of (cell_of ks a) ≡ size_of d → chunks_of (put_object ks a d) ≡ map (mapped_chunk (put_at a (with_fields d))) (chunks_of ks))
        → chunks_of (cond b (with_cell k a.offset d ∷ ks) (k ∷ put_object ks a d)) ≡ map (mapped_chunk (put_at a (with_fields d))) (chunk_of k ∷ chunks_of ks)
    chunks_put_by_cases true e m z go =
        let n : k.number ≡ a.chunk = eqb-true k.number a.chunk e in
        ap₂ (λ x xs. record (chunk_of k) { objects = x } ∷ xs)
        (objects_put k a d e m z)
        (sym (chunks_elsewhere a (with_fields d) (chunks_of ks) (λ o i at.
        let c = in_chunk (chunks_of ks) o i in
        let j = map_in chunk_of ks c.0 c.1 in
        fresh_off ks j.0 k.number A.0 j.1 (sym (numbered j.0.number 0 j.0.cells o (subst (λ (x : Chunk). In x.objects o) (sym j.2) c.2)) ∙ (ap (λ (x : Addr). x.chunk) at ∙ sym n)))))
    chunks_put_by_cases false e m z go =
        ap₂ (λ x xs. record (chunk_of k) { objects = x } ∷ xs)
        (sym (elsewhere a (with_fields d) (chunk_of k).objects (λ o i at. false≢true (sym e ∙ eq-eqb k.number a.chunk (sym (numbered k.number 0 k.cells o i) ∙ ap (λ (x : Addr). x.chunk) at)))))
        (go m z)

-- ---- WHAT FOLLOWS FROM THE OUTLINE

all_by : {A B : Type 0} (f : A → B) (P : A → Type 0) → ((x y : A) → f x ≡ f y → P x → P y) → (xs ys : List A) → map f xs ≡ map f ys → All P xs → All P ys
all_by f P h [] [] e a = All-nil P
all_by f P h [] (y ∷ ys) e a = absurd cc
all_by f P h (x ∷ xs) [] e a = absurd cc
all_by f P h (x ∷ xs) (y ∷ ys) e a =
    All-cons P y ys (h x y (let q : f x ≡ f y = cc in q) (All-head P x xs a)) (all_by f P h xs ys (let q : map f xs ≡ map f ys = cc in q) (All-tail P x xs a))

abbrev SameOutline : Cell → Cell → Type 0
SameOutline c d = outline_of_cell c ≡ outline_of_cell d

same_mark : (c d : Cell) → SameOutline c d → c.mark ≡ d.mark
same_mark c d e = ap (λ (z : Cell). z.mark) e

same_size : (c d : Cell) → SameOutline c d → size_of c ≡ size_of d
same_size c d e = sym (outline_size c) ∙ (ap size_of e ∙ outline_size d)

same_words : (cs ds : List Cell) → map outline_of_cell cs ≡ map outline_of_cell ds → words_in cs ≡ words_in ds
same_words [] [] e = refl
same_words [] (d ∷ ds) e = absurd cc
same_words (c ∷ cs) [] e = absurd cc
same_words (c ∷ cs) (d ∷ ds) e =
    ap₂ (λ n m. n + m) (same_size c d (let q : outline_of_cell c ≡ outline_of_cell d = cc in q)) (same_words cs ds (let q : map outline_of_cell cs ≡ map outline_of_cell ds = cc in q))

same_count : (cs ds : List Cell) → map outline_of_cell cs ≡ map outline_of_cell ds → length cs ≡ length ds
same_count cs ds e = sym (length-map cs outline_of_cell) ∙ (ap length e ∙ length-map ds outline_of_cell)

-- no objects in the one, none in the other
none_too : (number base base' : ℕ) (cs ds : List Cell) → map outline_of_cell cs ≡ map outline_of_cell ds → objects_from number base cs ≡ [] → objects_from number base' ds ≡ []
none_too number base base' cs [] e h = refl
none_too number base base' [] (d ∷ ds) e h = absurd cc
none_too number base base' (c ∷ cs) (d ∷ ds) e h =
    none_too_by_cases c.mark d.mark (same_mark c d (let q : outline_of_cell c ≡ outline_of_cell d = cc in q)) h
    (none_too number (base + size_of c) (base' + size_of d) cs ds (let q : map outline_of_cell cs ≡ map outline_of_cell ds = cc in q))
  where
    none_too_by_cases : (m n : Mark) → m ≡ n → located_by number base c m (objects_from number (base + size_of c) cs) ≡ []
        → (objects_from number (base + size_of c) cs ≡ [] → objects_from number (base' + size_of d) ds ≡ []) → located_by number base' d n (objects_from number (base' + size_of d) ds) ≡ []
    none_too_by_cases (Born b) n q g go = absurd cc
    none_too_by_cases (Moved to) (Born b) q g go = absurd cc
    none_too_by_cases (Moved to) (Moved z) q g go = go g
    none_too_by_cases (Moved to) Hole q g go = go g
    none_too_by_cases Hole (Born b) q g go = absurd cc
    none_too_by_cases Hole (Moved z) q g go = go g
    none_too_by_cases Hole Hole q g go = go g

abbrev SameChunks : ChunkValue → ChunkValue → Type 0
SameChunks k j = outline_of_chunk k ≡ outline_of_chunk j

cells_same : (k j : ChunkValue) → SameChunks k j → map outline_of_cell k.cells ≡ map outline_of_cell j.cells
cells_same k j e = ap (λ (z : ChunkValue). z.cells) e

size_same : (k j : ChunkValue) → SameChunks k j → k.size ≡ j.size
size_same k j e = ap (λ (z : ChunkValue). z.size) e

tidy_same : (k j : ChunkValue) → SameChunks k j → IsTidy k → IsTidy j
tidy_same k j e T =
    let cs = cells_same k j e in
    let n = same_count k.cells j.cells cs in
    let z = size_same k j e in
    record {
      unmoved = all_by outline_of_cell (λ (c : Cell). moved_to c.mark ≡ None) (λ c d q h. ap moved_to (sym (same_mark c d q)) ∙ h) k.cells j.cells cs T.unmoved;
      alone = subst (λ i. All (λ c. 1024 < size_of c → i ≡ 1) j.cells) n (all_by outline_of_cell (λ c. 1024 < size_of c → length k.cells ≡ 1) (λ c d q h lt. h (subst (λ i. 1024 < i) (sym (same_size c d q)) lt)) k.cells j.cells cs T.alone);
      exact = subst (λ i. All (λ c. 1024 < size_of c → i ≡ 1024 * units (size_of c)) j.cells) z
          (all_by outline_of_cell (λ c. 1024 < size_of c → k.size ≡ 1024 * units (size_of c)) (λ c d q h lt. h (subst (λ i. 1024 < i) (sym (same_size c d q)) lt) ∙ ap (λ i. 1024 * units i) (same_size c d q)) k.cells j.cells cs T.exact);
      few = λ lt. subst (λ i. i ≤ 1) n (T.few (subst (λ i. 1024 < i) (sym z) lt));
    }

-- ---- ITS FORM
module _ (h : LeafHeapValue) (a : Addr) (d : Cell) (form : HeapForm h) (mark : d.mark ≡ (cell_of h.chunks a).mark) (size : size_of d ≡ size_of (cell_of h.chunks a)) where
  abbrev ks : List ChunkValue
  ks = put_object h.chunks a d

  outlines : map outline_of_chunk ks ≡ map outline_of_chunk h.chunks
  outlines = ap (λ (z : LeafHeapValue). z.chunks) (written_outline h a d mark size)

  at_place : (i : ℕ) → SameChunks (chunk_at h.chunks i) (chunk_at ks i)
  at_place i = sym (outline_at h.chunks i) ∙ (ap (λ (z : List ChunkValue). chunk_at z i) (sym outlines) ∙ outline_at ks i)

  as_many : length ks ≡ length h.chunks
  as_many = length-put h.chunks a d

  near : OffsetsAreSmall ks
  near o i =
      let j = subst (λ (z : List Chunk). In (objects_of_chunks z) o) (chunks_put h.chunks a d form.shaped.apart (sym mark) (sym size)) i in
      let c = in_chunk (map (mapped_chunk (put_at a (with_fields d))) (chunks_of h.chunks)) o j in
      let k = map_in (mapped_chunk (put_at a (with_fields d))) (chunks_of h.chunks) c.0 c.1 in
      let q = map_in (put_at a (with_fields d)) k.0.objects o (subst (λ (z : Chunk). In z.objects o) (sym k.2) c.2) in
      subst (λ (z : Addr). z.offset < 1024) (near_by_cases q.0 (same_address q.0.at a) ∙ ap (λ (z : Located). z.at) q.2) (form.near q.0 (in_objects (chunks_of h.chunks) k.0 q.0 k.1 q.1))
    where
      near_by_cases : (q : Located) (b : Bool) → q.at ≡ (cond b (with_fields d q) q).at
      near_by_cases q true = refl
      near_by_cases q false = refl

  last_by : (o : Option ℕ) → IsLastSmall h.chunks o → IsLastSmall ks o
  last_by None f = tt
  last_by (Some i) f = λ j lt in_ e. f j lt (omega (arith, in_, as_many)) (size_same (chunk_at h.chunks j) (chunk_at ks j) (at_place j) ∙ e)

  last_large_by : (o : Option ℕ) → IsLastLarge h.chunks o → IsLastLarge ks o
  last_large_by None f = tt
  last_large_by (Some i) f = λ j lt in_. sym (size_same (chunk_at h.chunks j) (chunk_at ks j) (at_place j)) ∙ f j lt (omega (arith, in_, as_many))

  pub form_written : HeapForm (record h { chunks = ks })
  form_written = record {
    shaped = shape_written h a d form.shaped;
    near = near;
    tidy = all_by outline_of_chunk IsTidy tidy_same h.chunks ks (sym outlines) form.tidy;
    within = all_by outline_of_chunk (λ (k : ChunkValue). words_in k.cells ≤ k.size) (λ k j e f. subst (λ n. n ≤ j.size) (same_words k.cells j.cells (cells_same k j e)) (subst (λ n. words_in k.cells ≤ n) (size_same k j e) f)) h.chunks ks (sym outlines) form.within;
    last = last_by h.current form.last;
    last_large = last_large_by h.reserved form.last_large;
    since = form.since;
    whole = λ k i.
        let q = map_in outline_of_chunk h.chunks (outline_of_chunk k) (subst (λ zs. In zs (outline_of_chunk k)) outlines (in_map outline_of_chunk ks k i)) in
        let z = size_same q.0 k q.2 in
        sym z ∙ (form.whole q.0 q.1 ∙ ap (λ n. 1024 * (n / 1024)) z);
    spare = λ i lt big none.
        form.spare i (omega (arith, lt, as_many)) (λ e. big (sym (size_same (chunk_at h.chunks i) (chunk_at ks i) (at_place i)) ∙ e))
        (none_too (chunk_at h.chunks i).number 0 0 (chunk_at ks i).cells (chunk_at h.chunks i).cells (sym (cells_same (chunk_at h.chunks i) (chunk_at ks i) (at_place i)))
        (ap (λ n. objects_from n 0 (chunk_at ks i).cells) (ap (λ (z : ChunkValue). z.number) (at_place i)) ∙ none));
  }

  -- the room is unchanged
  pub room_written : room_of (record h { chunks = ks }) ≡ room_of h
  room_written = room_written_by_cases h.current
    where
      room_written_by_cases : (o : Option ℕ) → room_at ks o ≡ room_at h.chunks o
      room_written_by_cases None = refl
      room_written_by_cases (Some i) =
          let e = at_place i in
          ap₂ (λ n m. n - m) (sym (size_same (chunk_at h.chunks i) (chunk_at ks i) e)) (sym (same_words (chunk_at h.chunks i).cells (chunk_at ks i).cells (cells_same (chunk_at h.chunks i) (chunk_at ks i) e)))
