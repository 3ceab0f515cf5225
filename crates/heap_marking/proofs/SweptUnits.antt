-- How many units a sweep releases with its chunks: as the account says.
use Rattle.heap_marking.proofs.Common.{◌≡◌, ℕ, zero, suc, ◌+◌, ◌-◌, ◌*◌, ◌^◌, ◌<◌, ◌≤◌, ◌==◌, ◌++◌, arith, Bool, true, false, cond, not, Option, Some, None, List, [], ◌∷◌, filter, length, length-append, map, min, sum_by, slice_get, inl, inr, refl, ap, ap₂, sym, subst, ◌∙◌, unwrap_or, flat_map, same_Some, length-map, map-append, length-take-le, sum_by-append, sum_by-cons, in_append_left, in_append_right, MachineState, Heap, Ledger, begun_in, heap_of, held, held_in, in_use, left_in, marked_in, or_fresh, small_in, sweep_number, swept_heap, units_in, units_sum, without_empty, words_at, words_sum, holds_name, heaps_fit, use_is_bounded, Addr, ChunkValue, Located, counted32, unit_count, IsDone, MarkingValue, marked_of, gone_of, found_few, words, MarkedBy, ChunksHaveNames, large_chunks, chunk_names, small_chunks, In, object_name, objects_of_chunks, ParkedTask, chunk_of, chunks_of, SharedValue, marks_at, rest_at, value_of, words_same, objects_counted}
use Rattle.heap_marking.proofs.SweptChunks.{Agrees, AreFilled, Goes, KnowWords, gone, large_left, large_units, left, many, small_left, units_gone}
use Rattle.heap_marking.proofs.SweptForm.{filled, gone_plain}
use Rattle.heap_marking.proofs.SweptStart as start
use Rattle.heap_marking.proofs.HeapAsked.{AsksMarked, heap_names}

-- THE NUMBER OF A SWEEP, of chunks with these names
module _ (kept : List Addr) (m : MachineState) (a : Heap) (ks : List ChunkValue) (F : AreFilled ks) (N : ChunksHaveNames (chunks_of ks) a) (A : Agrees kept (holds_name a.snapshot) (objects_of_chunks (chunks_of ks))) (W : KnowWords kept m (objects_of_chunks (chunks_of ks))) where
  G : Goes kept m ks
  G = units_gone kept m ks F W

  -- its names after it is swept
  pub names_left : ChunksHaveNames (chunks_of (left kept ks)) (swept_heap a)
  names_left = record {
    small = small_left kept (holds_name a.snapshot) ks F A ∙ ap (λ ls. without_empty (map (filter (holds_name a.snapshot)) ls)) N.small;
    large = large_left kept (holds_name a.snapshot) ks F A ∙ ap (filter (holds_name a.snapshot)) N.large;
  }

  lists_before : length a.chunks ≡ many kept ks
  lists_before = ap length (sym N.small) ∙ length-map (small_chunks (chunks_of ks)) chunk_names

  lists_after : length (swept_heap a).chunks ≡ many kept (left kept ks)
  lists_after = ap length (sym names_left.small) ∙ length-map (small_chunks (chunks_of (left kept ks))) chunk_names

  large_before : units_sum m a.large ≡ large_units kept m ks
  large_before = ap (units_sum m) (sym N.large)

  large_after : units_sum m (swept_heap a).large ≡ large_units kept m (left kept ks)
  large_after = ap (units_sum m) (sym names_left.large)

  differ : (x y s p q b : ℕ) → x ≡ y + s → p ≡ q + b → (x - y) + (p - q) ≡ s + b
  differ x y s p q b e f = omega (arith, e, f)

  pub number_is : sweep_number m a ≡ unit_count (gone kept ks)
  number_is =
      ap₂ (λ x y. x + y) (ap₂ (λ x y. x - y) lists_before lists_after) (ap₂ (λ x y. x - y) large_before large_after)
      ∙ (differ (many kept ks) (many kept (left kept ks)) G.small (large_units kept m ks) (large_units kept m (left kept ks)) G.large G.smalls G.larges ∙ sym G.all)

  pub number_few : sweep_number m a ≤ units_in m a
  number_few = few (length a.chunks) (length (swept_heap a).chunks) (units_sum m a.large) (units_sum m (swept_heap a).large) a.reserved (begun_in a)
    where
      few : (x y p q r b : ℕ) → (x - y) + (p - q) ≤ x + p + r + b
      few x y p q r b = omega arith

-- OF ALL HEAPS
one_heap : (f : Heap → ℕ) → f (or_fresh None) ≡ 0 → (hs : List Heap) (t : ℕ) → f (or_fresh (slice_get hs t)) ≤ sum_by f hs
one_heap f none [] t = omega (arith, none)
one_heap f none (h ∷ hs) zero = let s = sum_by-cons f h hs in omega (arith, s)
one_heap f none (h ∷ hs) (suc t) = let s = sum_by-cons f h hs in let go : f (or_fresh (slice_get hs t)) ≤ sum_by f hs = one_heap f none hs t in omega (arith, s, go)

pub few_units : (l : Ledger) (t : ℕ) → units_in l.machine (heap_of l t) ≤ in_use l
few_units l t = one_heap (units_in l.machine) refl l.heaps t

one_words : (m : MachineState) (hs : List Heap) (t : ℕ) → words_sum m (held_in (or_fresh (slice_get hs t))) ≤ words_sum m (flat_map held_in hs)
one_words m [] t = omega arith
one_words m (h ∷ hs) zero = let s = sum_by-append (words_at m) (held_in h) (flat_map held_in hs) in omega (arith, s)
one_words m (h ∷ hs) (suc t) =
    let s = sum_by-append (words_at m) (held_in h) (flat_map held_in hs) in
    let go : words_sum m (held_in (or_fresh (slice_get hs t))) ≤ words_sum m (flat_map held_in hs) = one_words m hs t in
    omega (arith, s, go)

pub few_words : (l : Ledger) (t : ℕ) → words_sum l.machine (held_in (heap_of l t)) ≤ words_sum l.machine (held l)
few_words l t = one_words l.machine l.heaps t

-- an object has words
module _ (m : MachineState) where
  abbrev Know : List Located → Type 0
  Know os = (o : Located) → In os o → words_at m (object_name o) ≡ words o

  objects_few : (os : List Located) → Know os → length os ≤ words_sum m (map object_name os)
  objects_few [] W = omega arith
  objects_few (o ∷ os) W =
      let s = sum_by-cons (words_at m) (object_name o) (map object_name os) in
      let w : words_at m (object_name o) ≡ words o = W o (inl refl) in
      let go : length os ≤ words_sum m (map object_name os) = objects_few os (λ q i. W q (inr i)) in
      omega (arith, s, w, go)

  abbrev small_words : List ChunkValue → ℕ
  small_words ks = words_sum m (flat_map (λ ns. ns) (map chunk_names (small_chunks (chunks_of ks))))

  abbrev large_words : List ChunkValue → ℕ
  large_words ks = words_sum m (map object_name (objects_of_chunks (large_chunks (chunks_of ks))))

  chunks_few : (ks : List ChunkValue) → Know (objects_of_chunks (chunks_of ks)) → length (objects_of_chunks (chunks_of ks)) ≤ small_words ks + large_words ks
  chunks_few [] W = omega arith
  chunks_few (k ∷ ks) W =
      chunks_few_by_cases (k.size == 1024) (objects_few (chunk_of k).objects (λ o i. W o (in_append_left (chunk_of k).objects (objects_of_chunks (chunks_of ks)) o i)))
      (chunks_few ks (λ o i. W o (in_append_right (chunk_of k).objects (objects_of_chunks (chunks_of ks)) o i)))
    where
      long : length ((chunk_of k).objects ++ objects_of_chunks (chunks_of ks)) ≡ length (chunk_of k).objects + length (objects_of_chunks (chunks_of ks))
      long = length-append (chunk_of k).objects (objects_of_chunks (chunks_of ks))

      chunks_few_by_cases : (b : Bool) → length (chunk_of k).objects ≤ words_sum m (chunk_names (chunk_of k)) → length (objects_of_chunks (chunks_of ks)) ≤ small_words ks + large_words ks
          → length (objects_of_chunks (chunks_of (k ∷ ks)))
          ≤ words_sum m (flat_map (λ ns. ns) (map chunk_names (cond (not (not b)) (chunk_of k ∷ small_chunks (chunks_of ks)) (small_chunks (chunks_of ks)))))
          + words_sum m (map object_name (objects_of_chunks (cond (not b) (chunk_of k ∷ large_chunks (chunks_of ks)) (large_chunks (chunks_of ks)))))
      chunks_few_by_cases true own go =
          let s = sum_by-append (words_at m) (chunk_names (chunk_of k)) (flat_map (λ ns. ns) (map chunk_names (small_chunks (chunks_of ks)))) in
          omega (arith, long, own, go, s)
      chunks_few_by_cases false own go =
          let s = ap (words_sum m) (map-append object_name (chunk_of k).objects (objects_of_chunks (large_chunks (chunks_of ks)))) ∙ sum_by-append (words_at m) (chunk_names (chunk_of k)) (map object_name (objects_of_chunks (large_chunks (chunks_of ks)))) in
          omega (arith, long, own, go, s)

  pub held_few : (a : Heap) (ks : List ChunkValue) → ChunksHaveNames (chunks_of ks) a → Know (objects_of_chunks (chunks_of ks)) → length (objects_of_chunks (chunks_of ks)) ≤ words_sum m (held_in a)
  held_few a ks N W =
      let both = sum_by-append (words_at m) (small_in a) a.large in
      let small = ap (λ ls. words_sum m (flat_map (λ ns. ns) ls)) N.small in
      let large = ap (words_sum m) N.large in
      let few : length (objects_of_chunks (chunks_of ks)) ≤ small_words ks + large_words ks = chunks_few ks W in
      omega (arith, both, small, large, few)

-- OF A HEAP that is marked
module _ {w : SharedValue} {t : ℕ} (asks : AsksMarked w t) where
  open asks use {I}
  open (heap_names w t) use {l, a}

  abbrev marks : MarkingValue
  marks = (start.Z asks).marks

  abbrev ks : List ChunkValue
  ks = (start.Z asks).rest.heap.chunks

  pub know : (o : Located) → In (objects_of_chunks (chunks_of ks)) o → words_at l.machine (object_name o) ≡ words o
  know o i = words_same (value_of w) l t ks (start.S asks).belongings (start.rests asks) (start.chunks_here asks) o (start.object_there asks o i)

  used : in_use l ≤ 65536
  used =
      let u : in_use l ≤ w.settings.chunks = (use_is_bounded w.program w.settings w.journal.items I.legal).now in
      let c : w.settings.chunks ≤ 65536 = I.settings.chunks.1 in
      omega (arith, u, c)

  -- it fits in 32 bits
  few_marked : marks.marked < 2 ^ 32
  few_marked =
      let found : length marks.found ≤ length (objects_of_chunks (chunks_of ks)) = subst (λ n. length marks.found ≤ n) (objects_counted ks (start.form asks).tidy) (found_few ks marks (start.Z asks).further.own.room) in
      let below : marks.marked ≤ length marks.found = (start.Z asks).further.own.marked in
      let named : length (objects_of_chunks (chunks_of ks)) ≤ words_sum l.machine (held_in a) = held_few l.machine a ks (start.names asks) know in
      let all : words_sum l.machine (held_in a) ≤ words_sum l.machine (held l) = few_words l t in
      let fits : words_sum l.machine (held l) ≤ 1024 * in_use l = (heaps_fit w.program w.settings w.journal.items I.legal).words in
      let most = used in
      omega (arith, found, below, named, all, fits, most)

  pub few_at : (m : MarkingValue) → marks_at w.marks t ≡ Some m → m.marked < 2 ^ 32
  few_at m at = subst (λ (y : MarkingValue). y.marked < 2 ^ 32) (same_Some marks m (sym (start.Z asks).at ∙ at)) few_marked

  -- as its account says
  pub count_at : (m : MarkingValue) → marks_at w.marks t ≡ Some m → m.marked ≡ marked_in a
  count_at m at =
      let M : MarkedBy (value_of w) l t (Some m) = subst (MarkedBy (value_of w) l t) at ((start.S asks).marks t (start.Z asks).keeps) in
      sym (ap (λ (o : Option ℕ). unwrap_or o 0) M.0.count ∙ length-take-le m.marked m.found M.1.marked)

  module _ (none_left : left_in a ≡ 0) where
    abbrev kept : List Addr
    kept = marked_of marks

    -- the number of its sweep
    pub sweep_is : sweep_number l.machine a ≡ unit_count (gone_of (start.Z asks).rest.heap kept)
    sweep_is =
        number_is kept l.machine a ks (filled kept (start.Z asks).rest.heap (start.form asks) (start.none asks) (start.large asks)) (start.names asks) (start.agree asks none_left) know
        ∙ ap unit_count (sym (gone_plain kept (start.Z asks).rest.heap (start.form asks) (start.none asks) (start.large asks)))

    pub would_is : counted32 (unit_count (gone_of (start.Z asks).rest.heap kept)) ≡ sweep_number l.machine a
    would_is = counted (unit_count (gone_of (start.Z asks).rest.heap kept)) (sweep_number l.machine a) (sym sweep_is)
        (let n : sweep_number l.machine a ≤ units_in l.machine a = number_few kept l.machine a ks
        (filled kept (start.Z asks).rest.heap (start.form asks) (start.none asks) (start.large asks)) (start.names asks) (start.agree asks none_left) know in
        let u : units_in l.machine a ≤ in_use l = few_units l t in
        let most = used in omega (arith, n, u, most))
      where
        counted : (n m : ℕ) → n ≡ m → m ≤ 65536 → min n (2 ^ 32 - 1) ≡ m
        counted n m e few = omega (arith, e, few)

    -- for the heap and the marking that a call has
    pub would_be : (r : ParkedTask) (m : MarkingValue) → rest_at w.rests t ≡ Some r → marks_at w.marks t ≡ Some m → IsDone m × (counted32 (unit_count (gone_of r.heap (marked_of m))) ≡ sweep_number l.machine a)
    would_be r m there at =
        subst (λ (x : ParkedTask). IsDone m × (counted32 (unit_count (gone_of x.heap (marked_of m))) ≡ sweep_number l.machine a)) (same_Some (start.Z asks).rest r (sym (start.Z asks).there ∙ there))
        (subst (λ (y : MarkingValue). IsDone y × (counted32 (unit_count (gone_of (start.Z asks).rest.heap (marked_of y))) ≡ sweep_number l.machine a)) (same_Some marks m (sym (start.Z asks).at ∙ at))
        (start.done asks none_left, would_is))
