-- A sweep leaves in a heap exactly what its snapshot names.
use Rattle.heap_marking.proofs.Common.{◌≡◌, ℕ, ◌*◌, ◌/◌, arith, All, true, false, Option, Some, None, List, [], ◌∷◌, filter, length, option_map, slice_get, inl, inr, refl, ap, sym, subst, ◌∙◌, false≢true, not-true, same_Some, in_from_kept, in_kept, all_from, in_map, map_in, MachineState, row_of, is_joined, Heap, Ledger, heap_of, left_in, or_fresh, swept_heap, with_heap, holds_from_in, in_from_holds, Addr, ChunkValue, Located, Slot, PoolValue, slot_at, owner_of, slot_units, LeafHeapValue as HeapOfCode, IsFresh, room_of, with_places, unit_count, Level, marked_of, AreGiven, gone_of, goes, swept, units_in_slots, heap_then, with_at, KeepsJust, AreLaidOut, ChunksHaveNames, BelongingsStand, Belongings, In, Memory, object_name, objects, objects_of_chunks, sources, ParkedTask, Work, Calls, Result, AreMeasured, chunk_of, chunks_of, HeapForm, SharedValue, accounts, belongings_by, belongings_of, places_form, free_at_rest, inside_from, laid_from, same_chunk, belongings_chunks, fresh_by, owned_before}
use Rattle.core_invariant.specs.below.refinement.{Chunk}
use Rattle.heap_marking.proofs.SweptCells.{is_there}
use Rattle.heap_marking.proofs.SweptChunks.{gone, has, left, objects_left}
use Rattle.heap_marking.proofs.SweptForm as form
use Rattle.heap_marking.proofs.SweptPlaces.{left_was}
use Rattle.heap_marking.proofs.SweptStart as start
use Rattle.heap_marking.proofs.SweptStart.{room_there, since_there}
use Rattle.heap_marking.proofs.SweptUnits.{know, names_left}
use Rattle.heap_marking.proofs.HeapAsked.{AsksMarked, heap_names}

-- the belongings of a task beside its heap
abbrev frames_by : (h g : HeapOfCode) (view : List Level) (n : ℕ) (x : Work) → (belongings_by h view n x).frames ≡ (belongings_by g view n x).frames
frames_by h g view n (Calls s) = refl
frames_by h g view n (Result k r) = refl

abbrev result_by : (h g : HeapOfCode) (view : List Level) (n : ℕ) (x : Work) → (belongings_by h view n x).result ≡ (belongings_by g view n x).result
result_by h g view n (Calls s) = refl
result_by h g view n (Result k r) = refl

abbrev count_by : (h g : HeapOfCode) (view : List Level) (n : ℕ) (x : Work) → (belongings_by h view n x).count ≡ (belongings_by g view n x).count
count_by h g view n (Calls s) = refl
count_by h g view n (Result k r) = refl

abbrev view_by : (h g : HeapOfCode) (view : List Level) (n : ℕ) (x : Work) → (belongings_by h view n x).view ≡ (belongings_by g view n x).view
view_by h g view n (Calls s) = refl
view_by h g view n (Result k r) = refl

pub idle_belongings : (r : ParkedTask) → (belongings_of r).begun ≡ None
idle_belongings r = idle_belongings_by_cases r.work
  where
    idle_belongings_by_cases : (x : Work) → (belongings_by r.heap r.view r.allocations x).begun ≡ None
    idle_belongings_by_cases (Calls s) = refl
    idle_belongings_by_cases (Result k b) = refl

-- a heap that has found nothing, or something, exists
pub there_by : (l : Ledger) (t n : ℕ) → (heap_of l t).marked ≡ Some n → heap_of (with_heap l t swept_heap) t ≡ swept_heap (heap_of l t)
there_by l t n some = there_by_cases (slice_get l.heaps t) refl
  where
    none_some : {A : Type 0} → ◌≡◌ {A = Option ℕ} None (Some n) → A
    none_some q = absurd cc

    there_by_cases : (o : Option Heap) → slice_get l.heaps t ≡ o → heap_of (with_heap l t swept_heap) t ≡ swept_heap (heap_of l t)
    there_by_cases None e = none_some (sym (ap (λ o. (or_fresh o).marked) e) ∙ some)
    there_by_cases (Some h) e = ap or_fresh (with_at l t swept_heap ∙ ap (heap_then swept_heap) e) ∙ sym (ap (λ o. swept_heap (or_fresh o)) e)

module _ {w : SharedValue} {t : ℕ} (asks : AsksMarked w t) (none_left : left_in (heap_of (accounts w) t) ≡ 0) where
  open asks use {I, on}
  open (heap_names w t) use {l, v, a}

  abbrev pub r : ParkedTask
  r = (start.Z asks).rest

  abbrev pub kept : List Addr
  kept = marked_of (start.Z asks).marks

  abbrev ks : List ChunkValue
  ks = r.heap.chunks

  F : HeapForm r.heap
  F = start.form asks

  abbrev now : List ChunkValue
  now = left kept r.heap.chunks

  abbrev plain : HeapOfCode
  plain = form.plain kept r.heap F (start.none asks) (start.large asks)

  -- WHAT IS RELEASED
  gone_is : gone_of r.heap kept ≡ gone kept ks
  gone_is = form.gone_plain kept r.heap F (start.none asks) (start.large asks)

  gone_was : (c : ChunkValue) → In (gone kept ks) c → In ks c × (has kept c ≡ false)
  gone_was c i = let f = in_from_kept (goes kept None) ks c i in (f.0, not-true (has kept c) f.1)

  -- what stays has none of its numbers
  left_off : (x : ChunkValue) → In ks x → has kept x ≡ true → IsFresh (gone kept ks) x.number
  left_off x i h = fresh_by (gone kept ks) x.number (λ c j e.
      let g = gone_was c j in
      false≢true (sym g.1 ∙ (ap (has kept) (same_chunk ks c x F.shaped.apart g.0 i e) ∙ h)))

  owned_was : (c : ChunkValue) → In ks c → owner_of w.pool c.number ≡ Some t
  owned_was c i = (start.H asks).owned (chunk_of c) (subst (λ cs. In cs (chunk_of c)) (sym (start.chunks_here asks)) (in_map chunk_of ks c i))

  pub measured_was : AreMeasured w.pool t ks
  measured_was = I.measured t r (start.Z asks).there (free_at_rest w t I on (start.rests asks))

  -- as the pool counts it
  pub units_go : units_in_slots w.pool (gone_of r.heap kept) ≡ unit_count (gone_of r.heap kept)
  units_go = subst (λ gs. units_in_slots w.pool gs ≡ unit_count gs) (sym gone_is) (units_go_by_cases (gone kept ks) (λ c i. (gone_was c i).0))
    where
      units_go_by_cases : (gs : List ChunkValue) → ((c : ChunkValue) → In gs c → In ks c) → units_in_slots w.pool gs ≡ unit_count gs
      units_go_by_cases [] f = refl
      units_go_by_cases (c ∷ gs) f =
          let one : slot_units (slot_at w.pool c.number) ≡ c.size / 1024 = ap slot_units (measured_was c (f c (inl refl))) in
          let whole : c.size ≡ 1024 * (c.size / 1024) = F.whole c (f c (inl refl)) in
          let go : units_in_slots w.pool gs ≡ unit_count gs = units_go_by_cases gs (λ d i. f d (inr i)) in
          omega (arith, one, whole, go)

  pub owned_gone : All (λ c. owner_of w.pool c.number ≡ Some t) (gone_of r.heap kept)
  owned_gone = all_from (λ (c : ChunkValue). owner_of w.pool c.number ≡ Some t) (gone_of r.heap kept) (λ c i. owned_was c (gone_was c (subst (λ gs. In gs c) gone_is i)).0)

  module _ (pool : PoolValue) (G : AreGiven w.pool pool (gone_of r.heap kept)) (slots spare : ℕ) where
    abbrev pub heap' : HeapOfCode
    heap' = with_places (swept r.heap kept) slots spare

    abbrev pub rest' : ParkedTask
    rest' = record r { heap = heap' }

    heap_is : heap' ≡ with_places plain slots spare
    heap_is = ap (λ h. with_places h slots spare) (form.swept_plain kept r.heap F (start.none asks) (start.large asks))

    pub form_then : HeapForm heap'
    form_then = subst HeapForm (sym heap_is) (places_form plain slots spare (form.plain_form kept r.heap F (start.none asks) (start.large asks)))

    chunks_are : heap'.chunks ≡ now
    chunks_are = ap (λ (h : HeapOfCode). h.chunks) heap_is

    others : (n : ℕ) → IsFresh (gone kept ks) n → slot_at pool n ≡ slot_at w.pool n
    others n f = G.others n (subst (λ gs. IsFresh gs n) (sym gone_is) f)

    pub measured_then : AreMeasured pool t heap'.chunks
    measured_then c i =
        let x = left_was kept ks c (subst (λ cs. In cs c) chunks_are i) in
        subst (λ (z : ChunkValue). slot_at pool z.number ≡ Some (record { owner = t; units = z.size / 1024 })) x.3 (others x.0.number (left_off x.0 x.1 x.2) ∙ measured_was x.0 x.1)

    -- OWNERS OF CHUNKS
    pub owners : (n u : ℕ) → (u ≡ t → ⊥) → owner_of w.pool n ≡ Some u → owner_of pool n ≡ Some u
    owners n u ne o =
        ap (option_map (λ (h : Slot). h.owner)) (others n (fresh_by (gone kept ks) n (λ c i q. ne (same_Some u t (sym o ∙ (ap (owner_of w.pool) (sym q) ∙ owned_was c (gone_was c i).0)))))) ∙ o

    pub owned : (n u : ℕ) → owner_of pool n ≡ Some u → owner_of w.pool n ≡ Some u
    owned n u o = owned_before w.pool pool (gone_of r.heap kept) n u G.free (G.others n) o

    -- THE BELONGINGS, in a value and accounts that have them
    module _ (v' : Memory) (L : Ledger) (belongings : v'.belongings t ≡ belongings_of rest') (owner : v'.owner ≡ owner_of pool) (account : heap_of L t ≡ swept_heap a) (machine : L.machine ≡ l.machine) where
      chunks_then : (v'.belongings t).chunks ≡ chunks_of now
      chunks_then = ap (λ (h : Belongings). h.chunks) belongings ∙ (belongings_chunks rest' ∙ ap chunks_of chunks_are)

      objects_then : objects v' t ≡ filter (is_there kept) (objects_of_chunks (chunks_of ks))
      objects_then = ap objects_of_chunks chunks_then ∙ objects_left kept ks (form.filled kept r.heap F (start.none asks) (start.large asks))

      objects_before : objects v t ≡ objects_of_chunks (chunks_of ks)
      objects_before = ap objects_of_chunks (start.chunks_here asks)

      was : (o : Located) → In (objects v' t) o → In (objects v t) o × (is_there kept o ≡ true)
      was o i =
          let f = in_from_kept (is_there kept) (objects_of_chunks (chunks_of ks)) o (subst (λ os. In os o) objects_then i) in
          (subst (λ os. In os o) (sym objects_before) f.0, f.1)

      chunk_was : (c : Chunk) → In (v'.belongings t).chunks c → (x : ChunkValue) × In ks x × (has kept x ≡ true) × (x.number ≡ c.number)
      chunk_was c i =
          let y = map_in chunk_of now c (subst (λ cs. In cs c) chunks_then i) in
          let x = left_was kept ks y.0 y.1 in
          (x.0, x.1, x.2, ap (λ (z : ChunkValue). z.number) x.3 ∙ ap (λ (z : Chunk). z.number) y.2)

      belongings_then : BelongingsStand v' L t
      belongings_then = record {
        names = subst (λ cs. ChunksHaveNames cs (heap_of L t)) (sym chunks_then) (subst (ChunksHaveNames (chunks_of now)) (sym account)
            (names_left kept l.machine a ks (form.filled kept r.heap F (start.none asks) (start.large asks)) (start.names asks) (start.agree asks none_left) (know asks)));
        room = ap (λ (h : Belongings). h.room) belongings ∙ (room_there rest' ∙ (ap room_of heap_is
            ∙ (form.plain_room kept r.heap F (start.none asks) (start.large asks) a (start.names asks).small (start.room asks) (start.agree asks none_left) ∙ sym (ap (λ (z : Heap). z.room) account))));
        since = ap (λ (h : Belongings). h.since) belongings ∙ (since_there rest' ∙ (start.since asks ∙ sym (ap (λ (z : Heap). z.since) account)));
        count = λ live. ap (λ (h : Belongings). h.count) belongings ∙ (count_by heap' r.heap r.view r.allocations r.work ∙ (ap (λ (h : Belongings). h.count) (sym (start.own_belongings asks))
            ∙ ((start.H asks).count (ap (λ (m : MachineState). is_joined (slice_get m.tasks t)) (sym machine) ∙ live) ∙ ap (λ (m : MachineState). length (row_of (slice_get m.store t))) (sym machine))));
        owned = λ c i.
            let x = chunk_was c i in
            ap (λ (f : ℕ → Option ℕ). f c.number) owner ∙ (ap (owner_of pool) (sym x.3) ∙ (ap (option_map (λ (h : Slot). h.owner)) (others x.0.number (left_off x.0 x.1 x.2)) ∙ owned_was x.0 x.1));
        inside = λ c o i j. inside_from now c o (subst (λ cs. In cs c) chunks_then i) j;
        once = λ o q i j e. (start.H asks).once o q (was o i).0 (was q j).0 e;
        named = λ o q i j e. (start.H asks).named o q (was o i).0 (was q j).0 e;
        laid = subst (λ cs. AreLaidOut cs (heap_of L t).reserved) (sym chunks_then) (subst (λ (z : Heap). AreLaidOut (chunks_of now) z.reserved) (sym account)
            (laid_from plain (form.plain_formed kept r.heap F (start.none asks) (start.large asks)) a.reserved (start.nothing_reserved asks)));
      }

      pub keeps_just : ((u : ℕ) → (u ≡ t → ⊥) → v'.belongings u ≡ v.belongings u) → ((u : ℕ) → sources v' u ≡ sources v u) → KeepsJust v v' l L t a.snapshot
      keeps_just off noted = record {
        belongings = belongings_then;
        stays = λ o i n.
            let j : In (objects_of_chunks (chunks_of ks)) o = subst (λ os. In os o) objects_before i in
            subst (λ os. In os o) (sym objects_then) (in_kept (is_there kept) (objects_of_chunks (chunks_of ks)) o j (start.agree asks none_left o j ∙ holds_from_in a.snapshot (object_name o) n));
        only = λ o i.
            let x = was o i in
            let j : In (objects_of_chunks (chunks_of ks)) o = subst (λ os. In os o) objects_before x.0 in
            (x.0, in_from_holds a.snapshot (object_name o) (sym (start.agree asks none_left o j) ∙ x.1));
        frames = ap (λ (h : Belongings). h.frames) belongings ∙ (frames_by heap' r.heap r.view r.allocations r.work ∙ ap (λ (h : Belongings). h.frames) (sym (start.own_belongings asks)));
        result = ap (λ (h : Belongings). h.result) belongings ∙ (result_by heap' r.heap r.view r.allocations r.work ∙ ap (λ (h : Belongings). h.result) (sym (start.own_belongings asks)));
        view = ap (λ (h : Belongings). h.view) belongings ∙ (view_by heap' r.heap r.view r.allocations r.work ∙ ap (λ (h : Belongings). h.view) (sym (start.own_belongings asks)));
        others = off;
        owners = λ n u ne o. ap (λ (f : ℕ → Option ℕ). f n) owner ∙ owners n u ne o;
        owned = λ n u o. owned n u (ap (λ (f : ℕ → Option ℕ). f n) (sym owner) ∙ o);
        sources = noted;
      }
