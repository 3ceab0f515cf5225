-- A part gets a chunk.
use Rattle.leaf_collections.proofs.Common.{◌≡◌, ◌⊎◌, ℕ, ◌+◌, ◌*◌, ◌/◌, ◌<◌, ◌≤◌, true, false, ◌&&◌, not, Bool, cond, Option, Some, None, [], ◌∷◌, ◌++◌, length, map, slice_get, option_map, is_none, is_some, nat_lt, ◌==◌, inl, inr, refl, ap, ap₂, sym, subst, ◌∙◌, arith, lt-ltb, le-ltb, eq-eqb, ne_eqb, cases_eq, cases_lt, cond-false, cond-true, false≢true, leb-false, same_Some, append-nil, ReservedVecValue, in_map, MachineState, row_of, asked, is_joined, is_waiting, EntryValue, Heap, Ledger, Refused, Collecting, Due, NotNeeded, RunEnd, Pool as PoolOf, chunk_words, heap_of, in_use, is_small_size, lacks_room, let_go, or_fresh, units, with_heap, after, chunk_units, refused_if, refused_unless, with_chunk, is_due, is_in_need, on_asked, legal_booked, heap_machine, place_in, ChunkValue, Located, Slot, PoolValue, Reserves as PoolTakes, units_in_use, LeafHeapValue, IsFresh, added, with_places, rested, heap_then, with_at, with_off, rested_view, Chunk, Belongings, In, Memory, object_name, objects, objects_of_chunks, AreLaidOut, reserved_chunks, reserved_units, ChunksHaveNames, BelongingsStand, large_chunks, SameObjects, AsksUnits, BegunBy, with_belongings, at_belongings, Private, HasReservedUnits, HeapMatchesAccount, HeapIsShaped, chunks_added, shape_added, chunk_of, chunks_of, SharedValue, tree_counts_of, value_of, AreMeasured, IsMeasured, KeepsUnits, HeapForm, WorkerPartFits, belongings_of_part, part_asks, need_cause, asks_is, counted_is, account_idle, none_begun, small_names, MovesNothing, notes_unchanged, quiet_own, same_value, reserved_none, all_kept, measured_both, measured_new, part_kept, taken_keeps, fits_now, part_idle, stands_now, used_now, belongings_stand, places_form, some_units}
use Rattle.core_invariant.specs.below.run_trace.{Chunk as ChunkOf}
use Rattle.core_invariant.proofs.PartFitsMachine as link
use Rattle.leaf_collections.proofs.AccountChanges as change
use Rattle.leaf_collections.proofs.LeafEntry as leaf
use Rattle.leaf_collections.proofs.LeafEntry.{AsksLeaf, LeafEntered}
use Rattle.leaf_collections.proofs.MoreChunksRead.{units_some, chunk_begun, chunk_held, chunk_large, chunk_since, chunk_with, grown_counted, in_more, large_more, none_in, objects_more}
use Rattle.leaf_collections.proofs.MoreChunksLaid.{form_more, laid_more}
use Rattle.leaf_collections.proofs.WhyNoChunk.{at_work, chunk_is}

needed : (due need : Bool) (x y : Refused) → is_none (refused_if due x (refused_unless need y None)) ≡ true → need ≡ true
needed true need x y h = absurd (false≢true h)
needed false true x y h = refl
needed false false x y h = absurd (false≢true h)

-- the reserved chunk after it
units_more : (number words : ℕ) (z : Heap) → (is_small_size words ≡ false → z.reserved ≡ 0)
    → reserved_units z.reserved ++ map (λ (c : Chunk). c.units) (reserved_chunks (chunk_of (chunk_with number (chunk_units (Some words))) ∷ [])) ≡ reserved_units (with_chunk (Some words) z).reserved
units_more number words z none = units_more_by_cases (is_small_size words) refl
  where
    big_spare : (n : ℕ) → 2 ≤ n → map (λ (c : Chunk). c.units) (reserved_chunks (chunk_of (chunk_with number n) ∷ [])) ≡ n ∷ []
    big_spare n two =
        ap (λ b. map (λ (c : Chunk). c.units) (cond (not b && true) (chunk_of (chunk_with number n) ∷ []) [])) (ne_eqb (1024 * n) 1024 (λ e. omega (arith, e, two))) ∙ ap (λ m. m ∷ []) (let q : (1024 * n) / 1024 ≡ n = omega arith in q)

    units_more_by_cases : (b : Bool) → is_small_size words ≡ b → reserved_units z.reserved ++ map (λ (c : Chunk). c.units) (reserved_chunks (chunk_of (chunk_with number (cond b 1 (units words))) ∷ []))
        ≡ reserved_units (cond b (record z { chunks = z.chunks ++ [] ∷ []; room = chunk_words }) (record z { reserved = chunk_units (Some words) })).reserved
    units_more_by_cases true s = append-nil (reserved_units z.reserved)
    units_more_by_cases false s =
        let big_words : chunk_words < words = leb-false words chunk_words s in
        let two : 2 ≤ units words = omega (arith, big_words) in
        ap (λ n. reserved_units n ++ map (λ (c : Chunk). c.units) (reserved_chunks (chunk_of (chunk_with number (units words)) ∷ []))) (none s)
        ∙ (big_spare (units words) two ∙ (some_units (units words) (omega (arith, two)) ∙ ap reserved_units (sym (cond-false (is_small_size words) 1 (units words) s))))

words_by : (p : Private) (o : Option ℕ) → is_none (need_cause p o) ≡ true → (words : ℕ) × (o ≡ Some words)
words_by p None h = absurd (false≢true h)
words_by p (Some words) h = (words, refl)

-- if no chunk is refused to a part that is in no collection, it needs one
cause_none : (o : Bool) (c : Refused) (rest : Option Refused) → is_none (refused_if o c rest) ≡ true → is_none rest ≡ true
cause_none true c rest h = absurd (false≢true h)
cause_none false c rest h = h

-- other spare capacities don't matter
places_added : (h : LeafHeapValue) (K : ChunkValue) (a b c d : ℕ) → with_places (added (with_places h a b) K) c d ≡ with_places (added h K) c d
places_added h K a b c d = places_added_by_cases (K.size == 1024)
  where
    places_added_by_cases : (v : Bool)
        → with_places (cond v (record (with_places h a b) { chunks = h.chunks ++ K ∷ []; current = Some (length h.chunks) }) (record (with_places h a b) { chunks = h.chunks ++ K ∷ []; reserved = Some (length h.chunks) })) c d
        ≡ with_places (cond v (record h { chunks = h.chunks ++ K ∷ []; current = Some (length h.chunks) }) (record h { chunks = h.chunks ++ K ∷ []; reserved = Some (length h.chunks) })) c d
    places_added_by_cases true = refl
    places_added_by_cases false = refl

pub places_fit : (w : SharedValue) (k : ℕ) (p : Private) (a b : ℕ) → WorkerPartFits w k p → WorkerPartFits w k (record p { heap = with_places p.heap a b })
places_fit w k p a b F = record { out = F.out; fits = F.fits; form = places_form p.heap a b F.form; measured = F.measured; leaf_limit = F.leaf_limit; field_limit = F.field_limit }

module _ {w : SharedValue} {k : ℕ} {p : Private} (asks : AsksLeaf ChunkOf w k p) where
  open asks use {I, F, free}
  open (leaf.names asks) use {P, t, e, l, v, on}

  -- it needs a chunk for so many words
  needs : (words : ℕ) × (part_asks w.program p ≡ Some words)
  needs = words_by p (part_asks w.program p) (cause_none (is_some p.begun) Collecting (need_cause p (part_asks w.program p)) (ap is_none (sym (chunk_is w k p I F on)) ∙ leaf.kind_free asks))

  abbrev words : ℕ
  words = needs.0

  asked_is : asked w.program l.machine t ≡ Some words
  asked_is = asks_is w k P I F on ∙ needs.1

  abbrev more : Heap → Heap
  more = with_chunk (Some words)

  abbrev L : Ledger
  L = with_heap l t more

  abbrev given_by : Option ℕ → Ledger
  given_by o = cond (nat_lt w.settings.chunks (in_use l + chunk_units o)) (record l { end = Some (PoolOf (in_use l)) }) (with_heap l t (with_chunk o))

  -- ---- IF IT IS GIVEN
  abbrev heap_is_in_ledger : (z : Heap) × (slice_get l.heaps t ≡ Some z)
  heap_is_in_ledger = change.heap_is_in_ledger asks more (chunk_held words)

  heap_then_is : slice_get L.heaps t ≡ Some (more heap_is_in_ledger.0)
  heap_then_is = change.heap_then_is asks more (chunk_held words)

  -- the part is in no leaf collection
  abbrev by_need : Option Refused
  by_need = refused_if (is_due w.settings w.program l t) (Due (heap_of l t).since) (refused_unless (is_in_need w.program l t) (NotNeeded (heap_of l t).room) None)

  idle_part : p.begun ≡ None
  idle_part = none_begun w k P F on by_need (leaf.kind_free asks)

  idle : is_waiting (slice_get l.machine.tasks t) ≡ false
  idle = part_idle w k P F on

  -- it is needed, so no chunk is reserved when a large one comes
  need : is_in_need w.program l t ≡ true
  need =
      needed (is_due w.settings w.program l t) (is_in_need w.program l t) (Due (heap_of l t).since) (NotNeeded (heap_of l t).room)
      (ap is_none (sym (at_work w k p I F on idle_part by_need)) ∙ leaf.kind_free asks)

  lacks : lacks_room (heap_of l t) words ≡ true
  lacks = ap (λ o. on_asked o (lacks_room (heap_of l t))) (sym asked_is) ∙ need

  reserved_zero : is_small_size words ≡ false → heap_is_in_ledger.0.reserved ≡ 0
  reserved_zero big = elim (cases_lt 0 heap_is_in_ledger.0.reserved) [
    | inl lt ↦
        let q = ((legal_booked w.program w.settings w.journal.items I.legal).each t heap_is_in_ledger.0 heap_is_in_ledger.1).reserved lt in
        let same : q.0 ≡ words = same_Some q.0 words (sym q.1 ∙ asked_is) in
        let fits : (heap_of l t).reserved ≡ units words = ap (λ o. (or_fresh o).reserved) heap_is_in_ledger.1 ∙ (q.3 ∙ ap units same) in
        absurd (false≢true (sym (ap not (eq-eqb (heap_of l t).reserved (units words) fits)) ∙ (sym (cond-false (is_small_size words) (nat_lt (heap_of l t).room words) (not ((heap_of l t).reserved == units words)) big) ∙ lacks)))
    | inr le ↦ omega (arith, le)
  ]

  module _ {pool : PoolValue} {number u : ℕ} (sized_by : u ≡ chunk_units (part_asks w.program p)) (within : units_in_use w.pool + u ≤ w.pool.limit) (T : PoolTakes w.pool pool number (record { owner = p.task; units = u })) (j : ReservedVecValue EntryValue) (slots spare : ℕ) where
    sized : u ≡ chunk_units (Some words)
    sized = sized_by ∙ ap chunk_units needs.1

    abbrev K : ChunkValue
    K = chunk_with number u

    abbrev g : LeafHeapValue
    g = with_places (added p.heap K) slots spare

    abbrev Q : Private
    Q = record P { heap = g }

    abbrev pub w' : SharedValue
    w' = record w { pool = pool; journal = record { items = w.journal.items ++ e ∷ []; room = j.room } }

    abbrev v' : Memory
    v' = value_of w'

    fits_free : nat_lt w.settings.chunks (in_use l + chunk_units (Some words)) ≡ false
    fits_free =
        let a : w.pool.limit ≡ w.settings.chunks = I.limit in
        let b : units_in_use w.pool ≡ in_use l = used_now w I in
        le-ltb w.settings.chunks (in_use l + chunk_units (Some words)) (omega (arith, a, b, within, sized))

    then : after w.program w.settings l e ≡ L
    then =
        ap given_by asked_is
        ∙ cond-false (nat_lt w.settings.chunks (in_use l + chunk_units (Some words))) (record l { end = Some (PoolOf (in_use l)) }) L fits_free

    -- owners
    held_same_at : (c : ℕ) → (c ≡ number → ⊥) → v'.owner c ≡ v.owner c
    held_same_at c ne = ap (option_map (λ (z : Slot). z.owner)) (T.rest.others c ne)

    owner_new : v'.owner number ≡ Some t
    owner_new = ap (option_map (λ (z : Slot). z.owner)) T.taken

    owner_free : v.owner number ≡ None
    owner_free = ap (option_map (λ (z : Slot). z.owner)) T.was_free

    owner_kept : (c u : ℕ) → v.owner c ≡ Some u → v'.owner c ≡ Some u
    owner_kept c u e = elim (cases_eq c number) [
      | inl q ↦ let a : v.owner c ≡ None = ap v.owner q ∙ owner_free in absurd cc
      | inr ne ↦ held_same_at c ne ∙ e
    ]

    owner_taken : (c u : ℕ) → v'.owner c ≡ Some u → (v.owner c ≡ Some u) ⊎ ((is_waiting (slice_get l.machine.tasks u) ≡ false) × (is_some (slice_get l.machine.tasks u) ≡ true))
    owner_taken c u e = elim (cases_eq c number) [
      | inl q ↦
          let same : u ≡ t = same_Some u t (sym e ∙ (ap v'.owner q ∙ owner_new)) in
          inr (ap (λ z. is_waiting (slice_get l.machine.tasks z)) same ∙ idle, ap (λ z. is_some (slice_get l.machine.tasks z)) same ∙ ap is_some F.fits.is)
      | inr ne ↦ inl (sym (held_same_at c ne) ∙ e)
    ]

    -- nothing moves
    objects_same : SameObjects v v' l L
    objects_same = change.same_objects asks more (chunk_held words) pool owner_kept owner_taken

    asks_units : AsksUnits (nat_lt w.settings.chunks (units_in_use w.pool + chunk_units (asked w.program l.machine t))) (tree_counts_of w) (tree_counts_of w') (chunk_units (asked w.program l.machine t))
    asks_units =
        subst (λ o. AsksUnits (nat_lt w.settings.chunks (units_in_use w.pool + chunk_units o)) (tree_counts_of w) (tree_counts_of w') (chunk_units o)) (sym asked_is)
        (subst (λ b. AsksUnits b (tree_counts_of w) (tree_counts_of w') (chunk_units (Some words))) (sym (ap (λ n. nat_lt w.settings.chunks (n + chunk_units (Some words))) (used_now w I) ∙ fits_free))
        (T.units ∙ ap (λ n. units_in_use w.pool + n) sized, refl))

    units_stay : (o : ℕ) → KeepsUnits w.pool pool o
    units_stay = taken_keeps w.pool pool number (record { owner = p.task; units = u }) T

    moves : MovesNothing w w' e
    moves = record {
      enters = record { journal = refl; program = refl; settings = refl; halted = refl };
      quiet = tt;
      tasks = refl;
      limit = T.rest.limit;
      keeps = units_stay;
      same = subst (SameObjects v v' l) (sym then) objects_same;
      notes = λ u n. record { keeps = refl; kept = refl; marked = refl };
      marks = λ u m. absurd m;
      counts = (record { node = λ u. refl; task_out = λ u. refl; steps = refl; outputs = refl }, asks_units);
    }

    -- ---- THE PART
    abbrev before : Memory
    before = with_belongings v t (belongings_of_part P)

    abbrev after_ : Memory
    after_ = with_belongings v' t (belongings_of_part Q)

    own_belongings : before.belongings t ≡ belongings_of_part P
    own_belongings = at_belongings v t (belongings_of_part P)

    here' : after_.belongings t ≡ belongings_of_part Q
    here' = at_belongings v' t (belongings_of_part Q)

    H : BelongingsStand before (rested l t) t
    H = belongings_stand w k P I F on

    counted_then : HeapMatchesAccount g (more heap_is_in_ledger.0)
    counted_then = grown_counted p.heap heap_is_in_ledger.0 F.form.shaped (subst (HeapMatchesAccount p.heap) (ap or_fresh heap_is_in_ledger.1) (counted_is w k P I F on)) number slots spare words u sized

    -- its number belongs to no chunk of the heap
    pub fresh : IsFresh p.heap.chunks number
    fresh = fresh_by_cases (place_in p.heap.chunks number) refl
      where
        fresh_by_cases : (o : Option ℕ) → place_in p.heap.chunks number ≡ o → IsFresh p.heap.chunks number
        fresh_by_cases None q = q
        fresh_by_cases (Some i) q =
            let c = link.placed_in p.heap.chunks number i q in
            let a : v.owner number ≡ Some t = ap v.owner (sym c.2) ∙ H.owned (chunk_of c.0) (subst (λ (z : Belongings). In z.chunks (chunk_of c.0)) (sym own_belongings) (in_map chunk_of p.heap.chunks c.0 c.1)) in
            let b = owner_free in
            absurd cc

    size_least : 1024 ≤ K.size
    size_least = let a : 1 ≤ u = subst (λ n. 1 ≤ n) (sym sized) (units_some words) in omega (arith, a)

    chunks_are : g.chunks ≡ p.heap.chunks ++ K ∷ []
    chunks_are = chunks_added p.heap K refl size_least fresh slots spare

    measured_then : IsMeasured pool Q
    measured_then =
        let old = part_kept w.pool pool P (units_stay t) F.measured in
        (subst (AreMeasured pool t) (sym chunks_are) (measured_both pool t p.heap.chunks (K ∷ []) old.0 (measured_new w.pool pool K t u T refl)), old.1)

    shaped_then : HeapIsShaped g
    shaped_then = shape_added p.heap K refl size_least fresh F.form.shaped slots spare

    objects_then : objects_of_chunks (belongings_of_part Q).chunks ≡ objects_of_chunks (belongings_of_part P).chunks
    objects_then = ap (λ ks. objects_of_chunks (chunks_of ks)) chunks_are ∙ objects_more K refl p.heap.chunks

    account_then : heap_of (rested L t) t ≡ let_go (more heap_is_in_ledger.0)
    account_then = ap or_fresh (with_at L t let_go ∙ ap (heap_then let_go) heap_then_is)

    account_before : heap_of (rested l t) t ≡ let_go heap_is_in_ledger.0
    account_before = ap or_fresh (with_at l t let_go ∙ ap (heap_then let_go) heap_is_in_ledger.1)

    counted_rested : HeapMatchesAccount g (heap_of (rested L t) t)
    counted_rested = subst (HeapMatchesAccount g) (sym account_then) (record { chunks = counted_then.chunks; large = counted_then.large; last = counted_then.last; last_large = counted_then.last_large; room = counted_then.room; since = counted_then.since; reserved = counted_then.reserved })

    names_then : ChunksHaveNames (belongings_of_part Q).chunks (heap_of (rested L t) t)
    names_then = record {
      small = small_names g.chunks ∙ counted_rested.chunks;
      large =
          ap (λ ks. map object_name (objects_of_chunks (large_chunks (chunks_of ks)))) chunks_are
          ∙ (large_more K refl p.heap.chunks
          ∙ (ap (λ (z : Belongings). map object_name (objects_of_chunks (large_chunks z.chunks))) (sym own_belongings)
          ∙ (H.names.large ∙ (ap (λ (z : Heap). z.large) account_before ∙ (sym (chunk_large words heap_is_in_ledger.0) ∙ ap (λ (z : Heap). z.large) (sym account_then))))));
    }

    -- each of its chunks is an old one or the new one
    chunk_cases : (c : Chunk) → In (after_.belongings t).chunks c → In (before.belongings t).chunks c ⊎ (chunk_of K ≡ c)
    chunk_cases c i =
        elim (in_more p.heap.chunks K c (subst (λ ks. In (chunks_of ks) c) chunks_are (subst (λ (z : Belongings). In z.chunks c) here' i))) [
          | inl j ↦ inl (subst (λ (z : Belongings). In z.chunks c) (sym own_belongings) j)
          | inr q ↦ inr q
        ]

    was : (o : Located) → In (objects after_ t) o → In (objects before t) o
    was o i = subst (λ (z : Belongings). In (objects_of_chunks z.chunks) o) (sym own_belongings) (subst (λ os. In os o) objects_then (subst (λ (z : Belongings). In (objects_of_chunks z.chunks) o) here' i))

    abbrev spares : ℕ
    spares = (heap_of (rested l t) t).reserved

    abbrev spares_then : ℕ
    spares_then = (heap_of (rested L t) t).reserved

    spare_more : reserved_units spares ++ map (λ (c : Chunk). c.units) (reserved_chunks (chunk_of K ∷ [])) ≡ reserved_units spares_then
    spare_more =
        ap₂ (λ n c. reserved_units n ++ map (λ (c : Chunk). c.units) (reserved_chunks (chunk_of (chunk_with number c) ∷ []))) (ap (λ (z : Heap). z.reserved) account_before) sized
        ∙ (units_more number words heap_is_in_ledger.0 reserved_zero ∙ ap (λ (z : Heap). reserved_units z.reserved) (sym account_then))

    laid_then : AreLaidOut (after_.belongings t).chunks spares_then
    laid_then =
        subst (λ (z : Belongings). AreLaidOut z.chunks spares_then) (sym here')
        (subst (λ ks. AreLaidOut (chunks_of ks) spares_then) (sym chunks_are)
        (laid_more K refl p.heap.chunks fresh spares spares_then (subst (λ (z : Belongings). AreLaidOut z.chunks spares) own_belongings H.laid) spare_more))

    none_reserved : 2 ≤ u → p.heap.reserved ≡ None
    none_reserved two =
        reserved_none p.heap F.form p.heap.reserved refl
        (subst (HasReservedUnits p.heap.chunks p.heap.reserved) (ap (λ o. (or_fresh o).reserved) heap_is_in_ledger.1 ∙ reserved_zero (big (is_small_size words) refl sized)) (counted_is w k P I F on).reserved)
      where
        big : (b : Bool) → is_small_size words ≡ b → u ≡ cond b 1 (units words) → is_small_size words ≡ false
        big true s q = absurd (omega (arith, two, q))
        big false s q = s

    form_then : HeapForm g
    form_then = form_more p.heap F.form number u slots spare (omega (arith, size_least)) none_reserved shaped_then chunks_are counted_then.last counted_then.last_large

    rested_same : (rested l t).machine ≡ (rested L t).machine
    rested_same = change.rested_same asks more (chunk_held words)

    belongings_then : BelongingsStand after_ (rested L t) t
    belongings_then = record {
      names = subst (λ (z : Belongings). ChunksHaveNames z.chunks (heap_of (rested L t) t)) (sym here') names_then;
      room = ap (λ (z : Belongings). z.room) here' ∙ counted_rested.room;
      since = ap (λ (z : Belongings). z.since) here' ∙ (added_since ∙ (ap (λ (z : Belongings). z.since) (sym own_belongings) ∙ (H.since ∙ (ap (λ (z : Heap). z.since) account_before ∙ (sym (chunk_since words heap_is_in_ledger.0) ∙ ap (λ (z : Heap). z.since) (sym account_then))))));
      count = λ live. ap (λ (z : Belongings). z.count) here' ∙ (ap (λ (z : Belongings). z.count) (sym own_belongings) ∙ (H.count (ap (λ (m : MachineState). is_joined (slice_get m.tasks t)) rested_same ∙ live) ∙ ap (λ (m : MachineState). length (row_of (slice_get m.store t))) rested_same));
      owned = λ c i. elim (chunk_cases c i) [
        | inl q ↦ owner_kept c.number t (H.owned c q)
        | inr q ↦ ap (λ (z : Chunk). v'.owner z.number) (sym q) ∙ owner_new
      ];
      inside = λ c o i q. elim (chunk_cases c i) [
        | inl a ↦ H.inside c o a q
        | inr a ↦ absurd (subst (λ os. In os o) (none_in K refl) (subst (λ (z : Chunk). In z.objects o) (sym a) q))
      ];
      once = λ o q a b e. H.once o q (was o a) (was q b) e;
      named = λ o q a b e. H.named o q (was o a) (was q b) e;
      laid = laid_then;
    }
      where
        added_since : g.since ≡ p.heap.since
        added_since = added_since_by_cases (K.size == 1024)
          where
            added_since_by_cases : (b : Bool) → (with_places (cond b (record p.heap { chunks = p.heap.chunks ++ K ∷ []; current = Some (length p.heap.chunks) }) (record p.heap { chunks = p.heap.chunks ++ K ∷ []; reserved = Some (length p.heap.chunks) })) slots spare).since ≡ p.heap.since
            added_since_by_cases true = refl
            added_since_by_cases false = refl

    part_same : SameObjects before after_ (rested l t) (rested L t)
    part_same = change.part_same asks more (chunk_held words) pool owner_kept (belongings_of_part Q) belongings_then refl objects_then owner_taken (λ q. refl)

    none_then : (heap_of (rested L t) t).begun ≡ None
    none_then = ap (λ (z : Heap). z.begun) account_then ∙ (chunk_begun words heap_is_in_ledger.0 ∙ (ap (λ o. (or_fresh o).begun) (sym heap_is_in_ledger.1) ∙ account_idle w k P F on idle_part))

    chunk_part : WorkerPartFits w' k Q
    chunk_part =
        quiet_own I free moves k p g p.begun F form_then measured_then
        (subst (λ (z : Ledger). SameObjects before after_ (rested l t) (rested z t)) (sym then) part_same)
        (subst (λ (z : Ledger). BegunBy after_ (rested z t) t p.begun) (sym then) (subst (λ o. BegunBy after_ (rested L t) t o) (sym idle_part) none_then))

    -- as the call makes it: the heap had other spare capacities before
    pub chunk_entered : (c : ChunkValue) → c ≡ K → (a b : ℕ) → LeafEntered w w' e (record p { heap = with_places (added (with_places p.heap a b) c) slots spare })
    chunk_entered c is a b =
        subst (λ (h : LeafHeapValue). LeafEntered w w' e (record p { heap = h })) (sym (ap (λ (z : ChunkValue). with_places (added (with_places p.heap a b) z) slots spare) is ∙ places_added p.heap K a b slots spare))
        (leaf.leaf_entered asks (λ u q. q) moves g p.begun chunk_part)

  -- ---- IF TOO FEW ARE FREE
  module _ (u : ℕ) (sized_by : u ≡ chunk_units (part_asks w.program p)) (full_by : w.pool.limit < units_in_use w.pool + u) (j : ReservedVecValue EntryValue) where
    full : w.pool.limit < units_in_use w.pool + chunk_units (Some words)
    full = subst (λ n. w.pool.limit < units_in_use w.pool + n) (sized_by ∙ ap chunk_units needs.1) full_by

    abbrev full_end : Option RunEnd
    full_end = Some (PoolOf (units_in_use w.pool))

    abbrev ended : SharedValue
    ended = record w { end = full_end; journal = record { items = w.journal.items ++ e ∷ []; room = j.room } }

    abbrev full_ledger : Ledger
    full_ledger = record l { end = full_end }

    ends_so : after w.program w.settings l e ≡ full_ledger
    ends_so =
        ap given_by asked_is
        ∙ (ap (λ n. cond (nat_lt w.settings.chunks (n + chunk_units (Some words))) (record l { end = Some (PoolOf n) }) L) (sym (used_now w I))
        ∙ cond-true (nat_lt w.settings.chunks (units_in_use w.pool + chunk_units (Some words))) full_ledger L
        (lt-ltb w.settings.chunks (units_in_use w.pool + chunk_units (Some words)) (let q : w.pool.limit ≡ w.settings.chunks = I.limit in omega (arith, full, q))))

    full_units : AsksUnits (nat_lt w.settings.chunks (units_in_use w.pool + chunk_units (asked w.program l.machine t))) (tree_counts_of w) (tree_counts_of ended) (chunk_units (asked w.program l.machine t))
    full_units =
        let limit : w.pool.limit ≡ w.settings.chunks = I.limit in
        subst (λ o. AsksUnits (nat_lt w.settings.chunks (units_in_use w.pool + chunk_units o)) (tree_counts_of w) (tree_counts_of ended) (chunk_units o)) (sym asked_is)
        (subst (λ b. AsksUnits b (tree_counts_of w) (tree_counts_of ended) (chunk_units (Some words))) (sym (lt-ltb w.settings.chunks (units_in_use w.pool + chunk_units (Some words)) (omega (arith, full, limit))))
        (refl, refl))

    moves_full : MovesNothing w ended e
    moves_full = record {
      enters = record { journal = refl; program = refl; settings = refl; halted = refl };
      quiet = tt;
      tasks = refl;
      limit = refl;
      keeps = all_kept w.pool;
      same = subst (SameObjects v v l) (sym ends_so) (same_value v l full_ledger refl (λ u. refl) (stands_now w I on).belongings.belongings);
      notes = λ u n. notes_unchanged v u;
      marks = λ u m. absurd m;
      counts = (record { node = λ u. refl; task_out = λ u. refl; steps = refl; outputs = refl }, full_units);
    }

    abbrev full_belongings : Memory
    full_belongings = with_belongings v t (belongings_of_part P)

    heaps_rested : (u : ℕ) → heap_of (rested full_ledger t) u ≡ heap_of (rested l t) u
    heaps_rested u = elim (cases_eq u t) [
      | inl q ↦ ap (λ z. heap_of (rested full_ledger t) z) q ∙ (ap or_fresh (with_at full_ledger t let_go ∙ sym (with_at l t let_go)) ∙ ap (λ z. heap_of (rested l t) z) (sym q))
      | inr ne ↦ ap or_fresh (with_off full_ledger t u let_go ne ∙ sym (with_off l t u let_go ne))
    ]

    none_full : (heap_of (rested full_ledger t) t).begun ≡ None
    none_full = ap (λ (z : Heap). z.begun) (heaps_rested t) ∙ (rested_view (λ (z : Heap). z.begun) (λ z. refl) l t ∙ account_idle w k P F on idle_part)

    -- the heap may have other spare capacities
    pub full_entered : (a b : ℕ) → LeafEntered w ended e (record p { heap = with_places p.heap a b })
    full_entered a b =
        leaf.leaf_entered asks (λ u q. q) moves_full (with_places p.heap a b) p.begun
        (quiet_own I free moves_full k p (with_places p.heap a b) p.begun F (places_form p.heap a b F.form) F.measured
        (subst (λ (z : Ledger). SameObjects full_belongings full_belongings (rested l t) (rested z t)) (sym ends_so)
        (same_value full_belongings (rested l t) (rested full_ledger t) (heap_machine full_ledger t let_go ∙ sym (heap_machine l t let_go)) heaps_rested (fits_now w k P F on).stands.belongings))
        (subst (λ (z : Ledger). BegunBy full_belongings (rested z t) t p.begun) (sym ends_so) (subst (λ o. BegunBy full_belongings (rested full_ledger t) t o) (sym idle_part) none_full)))
