-- What is known of a heap's chunks follows from its outline, so it stays known when private steps are taken.
use Rattle.step_commit.proofs.Common.{◌≡◌, ℕ, zero, suc, pos, ◌+◌, ◌-◌, ◌*◌, ◌<◌, ◌≤◌, arith, false, Option, Some, None, List, [], ◌∷◌, length, map, replicate, slice_get, All, inl, inr, refl, ap, sym, subst, ◌∙◌, length-map, length-replicate, All-cons, All-head, All-map, All-nil, All-tail, All-weaker, ProgramText, MachineState, row_of, asked, Born, Cell, Hole, Mark, Moved, moved_to, size_of, chunk_at, ChunkValue, Located, located_by, objects_from, LeafHeapValue, IsTidy, place_for, with_object_placed, units, HoldsLarge, words, Private, HeapIsShaped, blank, outline_after, outline_by, outline_of, outline_of_cell, outline_of_chunk, steps, Places, Ran, outline_at, outline_size, outline_words, outline_apart, outline_current, outline_kept, words_by, chunk_of, Formed, IsFormed, formed_placed, asked_at_line}

-- ---- OBJECTS

-- an object with blank fields
abbrev plain : Located → Located
plain o = record o { mutable = false; refs = []; ints = replicate (length o.refs + length o.ints) (pos 0) }

plain_words : (o : Located) → words (plain o) ≡ words o
plain_words o = let e = length-replicate (length o.refs + length o.ints) (pos 0) in omega (arith, e)

objects_outlined : (cs : List Cell) (number base : ℕ) → objects_from number base (map outline_of_cell cs) ≡ map plain (objects_from number base cs)
objects_outlined [] number base = refl
objects_outlined (c ∷ cs) number base =
    ap (λ n. located_by number base (outline_of_cell c) c.mark (objects_from number (base + n) (map outline_of_cell cs))) (outline_size c)
    ∙ (ap (located_by number base (outline_of_cell c) c.mark) (objects_outlined cs number (base + size_of c)) ∙ along c.mark (objects_from number (base + size_of c) cs))
  where
    along : (m : Mark) (os : List Located) → located_by number base (outline_of_cell c) m (map plain os) ≡ map plain (located_by number base c m os)
    along (Born b) os = refl
    along (Moved to) os = refl
    along Hole os = refl

objects_of : (k : ChunkValue) → (chunk_of (outline_of_chunk k)).objects ≡ map plain (chunk_of k).objects
objects_of k = objects_outlined k.cells k.number 0

none_back : (os : List Located) → map plain os ≡ [] → os ≡ []
none_back [] e = refl
none_back (o ∷ os) e = absurd cc

one_back : (os : List Located) (o : Located) → map plain os ≡ o ∷ [] → (q : Located) × (os ≡ q ∷ []) × (plain q ≡ o)
one_back [] o e = absurd cc
one_back (q ∷ []) o e = (q, refl, cc)
one_back (q ∷ r ∷ os) o e = absurd cc

large_on : (k : ChunkValue) → HoldsLarge (chunk_of k) → HoldsLarge (chunk_of (outline_of_chunk k))
large_on k (inl e) = inl (objects_of k ∙ ap (map plain) e)
large_on k (inr h) = inr (plain h.0, objects_of k ∙ ap (map plain) h.1, h.2, h.3 ∙ ap units (sym (plain_words h.0)))

large_back : (k : ChunkValue) → HoldsLarge (chunk_of (outline_of_chunk k)) → HoldsLarge (chunk_of k)
large_back k (inl e) = inl (none_back (chunk_of k).objects (sym (objects_of k) ∙ e))
large_back k (inr h) =
    let q = one_back (chunk_of k).objects h.0 (sym (objects_of k) ∙ h.1) in
    inr (q.0, q.1, ap (λ (o : Located). o.at.offset) q.2 ∙ h.2, h.3 ∙ (ap (λ (o : Located). units (words o)) (sym q.2) ∙ ap units (plain_words q.0)))

-- ---- CHUNKS

all_back : (P : Cell → Type 0) (cs : List Cell) → All P (map outline_of_cell cs) → All (λ c. P (outline_of_cell c)) cs
all_back P [] a = All-nil (λ c. P (outline_of_cell c))
all_back P (c ∷ cs) a = All-cons (λ c. P (outline_of_cell c)) c cs (All-head P (outline_of_cell c) (map outline_of_cell cs) a) (all_back P cs (All-tail P (outline_of_cell c) (map outline_of_cell cs) a))

abbrev Alone : ℕ → Cell → Type 0
Alone n c = 1024 < size_of c → n ≡ 1

abbrev Exact : ℕ → Cell → Type 0
Exact size c = 1024 < size_of c → size ≡ 1024 * units (size_of c)

module _ (k : ChunkValue) where
  as_many : length (map outline_of_cell k.cells) ≡ length k.cells
  as_many = length-map k.cells outline_of_cell

  tidy_on : IsTidy k → IsTidy (outline_of_chunk k)
  tidy_on t = record {
    unmoved = All-map (λ (c : Cell). moved_to c.mark ≡ None) outline_of_cell k.cells t.unmoved;
    alone = subst (λ n. All (Alone n) (map outline_of_cell k.cells)) (sym as_many) (All-map (Alone (length k.cells)) outline_of_cell k.cells (All-weaker (Alone (length k.cells)) (λ c. Alone (length k.cells) (outline_of_cell c)) (λ c f lt. f (subst (λ n. 1024 < n) (outline_size c) lt)) k.cells t.alone));
    exact = All-map (Exact k.size) outline_of_cell k.cells (All-weaker (Exact k.size) (λ c. Exact k.size (outline_of_cell c)) (λ c f lt. f (subst (λ n. 1024 < n) (outline_size c) lt) ∙ ap (λ n. 1024 * units n) (sym (outline_size c))) k.cells t.exact);
    few = λ lt. subst (λ n. n ≤ 1) (sym as_many) (t.few lt);
  }

  tidy_back : IsTidy (outline_of_chunk k) → IsTidy k
  tidy_back t = record {
    unmoved = all_back (λ (c : Cell). moved_to c.mark ≡ None) k.cells t.unmoved;
    alone = All-weaker (λ c. Alone (length k.cells) (outline_of_cell c)) (Alone (length k.cells)) (λ c f lt. f (subst (λ n. 1024 < n) (sym (outline_size c)) lt)) k.cells (all_back (Alone (length k.cells)) k.cells (subst (λ n. All (Alone n) (map outline_of_cell k.cells)) as_many t.alone));
    exact = All-weaker (λ c. Exact k.size (outline_of_cell c)) (Exact k.size) (λ c f lt. f (subst (λ n. 1024 < n) (sym (outline_size c)) lt) ∙ ap (λ n. 1024 * units n) (outline_size c)) k.cells (all_back (Exact k.size) k.cells t.exact);
    few = λ lt. subst (λ n. n ≤ 1) as_many (t.few lt);
  }

  formed_on : IsFormed k → IsFormed (outline_of_chunk k)
  formed_on F = record {
    tidy = tidy_on F.tidy;
    within = subst (λ n. n ≤ k.size) (sym (outline_words k.cells)) F.within;
    whole = F.whole;
    large = λ big. large_on k (F.large big);
  }

  formed_back : IsFormed (outline_of_chunk k) → IsFormed k
  formed_back F = record {
    tidy = tidy_back F.tidy;
    within = subst (λ n. n ≤ k.size) (outline_words k.cells) F.within;
    whole = F.whole;
    large = λ big. large_back k (F.large big);
  }

-- ---- THE SHAPE

-- ---- THE HEAP

pub formed_outline : (h : LeafHeapValue) → Formed h → Formed (outline_of h)
formed_outline h F =
    let len : length (map outline_of_chunk h.chunks) ≡ length h.chunks = length-map h.chunks outline_of_chunk in
    record {
      shaped = record { apart = outline_apart h.chunks F.shaped.apart; current = outline_current h.chunks h.current F.shaped.current; reserved = outline_kept h.chunks h.reserved F.shaped.reserved };
      each = λ i lt. subst IsFormed (sym (outline_at h.chunks i)) (formed_on (chunk_at h.chunks i) (F.each i (omega (arith, lt, len))));
      spare = λ i lt big empty.
          let at : chunk_at (map outline_of_chunk h.chunks) i ≡ outline_of_chunk (chunk_at h.chunks i) = outline_at h.chunks i in
          F.spare i (omega (arith, lt, len)) (λ e. big (ap (λ (k : ChunkValue). k.size) at ∙ e))
          (none_back (chunk_of (chunk_at h.chunks i)).objects (sym (objects_of (chunk_at h.chunks i)) ∙ (ap (λ (k : ChunkValue). (chunk_of k).objects) (sym at) ∙ empty)));
    }

pub formed_from : (h : LeafHeapValue) → HeapIsShaped h → Formed (outline_of h) → Formed h
formed_from h S F =
    let len : length (map outline_of_chunk h.chunks) ≡ length h.chunks = length-map h.chunks outline_of_chunk in
    record {
      shaped = S;
      each = λ i lt. formed_back (chunk_at h.chunks i) (subst IsFormed (outline_at h.chunks i) (F.each i (omega (arith, lt, len))));
      spare = λ i lt big empty.
          let at : chunk_at (map outline_of_chunk h.chunks) i ≡ outline_of_chunk (chunk_at h.chunks i) = outline_at h.chunks i in
          F.spare i (omega (arith, lt, len)) (λ e. big (ap (λ (k : ChunkValue). k.size) (sym at) ∙ e))
          (ap (λ (k : ChunkValue). (chunk_of k).objects) at ∙ (objects_of (chunk_at h.chunks i) ∙ ap (map plain) empty));
    }

-- ---- STEPS

-- an object has at least two words
pub asked_two : (p : ProgramText) (m : MachineState) (t w : ℕ) → asked p m t ≡ Some w → 2 ≤ w
asked_two p m t w e = asked_at_line p m t w (λ x line il h. words_by m.field_limit x.top line.instr w h) e

-- the outline of the task's next object, of w words
abbrev next_blank : MachineState → ℕ → ℕ → Cell
next_blank m t w = blank (Born (record { task = t; count = length (row_of (slice_get m.store t)) })) (w - 2)

formed_by : (m : MachineState) (t : ℕ) (h : LeafHeapValue) (o : Option ℕ) → ((w : ℕ) → o ≡ Some w → 2 ≤ w) → Formed h → Formed (outline_by m t h o)
formed_by m t h None two F = F
formed_by m t h (Some w) two F = formed_by_cases (place_for h w) refl
  where
    size : size_of (next_blank m t w) ≡ w
    size = let e : length (replicate (w - 2) (pos 0)) ≡ w - 2 = length-replicate (w - 2) (pos 0) in let le = two w refl in omega (arith, e, le)

    formed_by_cases : (q : Option ℕ) → place_for h w ≡ q → Formed (with_object_placed h q (next_blank m t w))
    formed_by_cases None e = F
    formed_by_cases (Some i) e = formed_placed h F i (next_blank m t w) (record { task = t; count = length (row_of (slice_get m.store t)) }) refl (ap (place_for h) size ∙ e)

formed_after : (p : ProgramText) (m : MachineState) (t : ℕ) (h : LeafHeapValue) (k : ℕ) → Formed h → Formed (outline_after p m t h k)
formed_after p m t h zero F = F
formed_after p m t h (suc k) F = formed_by (steps p m t k) t (outline_after p m t h k) (asked p (steps p m t k) t) (λ w e. asked_two p (steps p m t k) t w e) (formed_after p m t h k F)

-- A RUN LEAVES IT KNOWN
pub run_formed : (p : ProgramText) (old new : Private) (m : MachineState) (above : Places) (n : ℕ) → Ran p old m above n new → Formed old.heap → Formed new.heap
run_formed p old new m above n R F = formed_from new.heap R.fits.shape (subst Formed (sym R.outline) (formed_after p m old.task (outline_of old.heap) n (formed_outline old.heap F)))
