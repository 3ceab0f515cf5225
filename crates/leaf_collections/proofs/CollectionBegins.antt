-- A leaf collection of a part begins.
use Rattle.leaf_collections.proofs.Common.{◌≡◌, ℕ, ◌+◌, true, false, Some, None, List, [], ◌∷◌, ◌++◌, map, slice_get, option_map, is_some, ◌⊎◌, inl, inr, refl, ap, sym, ◌∙◌, cases_Bool, same_Some, ReservedVecValue, read_in, is_waiting, Begin, EntryValue, Heap, Ledger, take_of, with_heap, within, has_chunk, small_words, ChunkValue, number_of, PoolValue, TakesAll, slot_in, units_in_use, taken_are_owned, LeafHeapValue, with_places, In, Memory, Begun, Private, SharedValue, value_of, KeepsUnits, take_by, roots_of, take_is, MovesNothing, all_taken_keep, part_idle, chunk_in, Option, length, ap₂, subst, length-map, in_map, map_in, MachineState, heap_of, let_go, heap_machine, place_in, has_own, IsFresh, rested, within_rested, legal_knows, rested_sound, rested_view, rested_worker, waits_rest, SameObjects, with_belongings, BelongingsStand, Chunk, Belongings, BegunStands, LeafCollectionBegins, begins, at_belongings, chunk_of, IsMeasured, belongings_of_part, account_idle, places_form, quiet_own, all_taken_units, measured_kept, fits_now, belongings_stand, status, are_roots}
use Rattle.core_invariant.proofs.PartFitsMachine as link
use Rattle.leaf_collections.proofs.AccountChanges as change
use Rattle.leaf_collections.proofs.LeafEntry as leaf
use Rattle.leaf_collections.proofs.LeafEntry.{AsksLeaf, LeafEntered}
use Rattle.leaf_collections.proofs.NewChunks.{distinct_numbers, idle_rest}
use Rattle.leaf_collections.proofs.WhyNoCollection.{begin_idle}

module _ {w : SharedValue} {k : ℕ} {p : Private} (asks : AsksLeaf Begin w k p) where
  open asks use {I, F, free}
  open (leaf.names asks) use {P, t, e, l, v, on}

  abbrev begun_with : Heap → Heap
  begun_with z = record z { begun = Some (take_of l.machine z); survivors = within l t }

  abbrev L : Ledger
  L = with_heap l t begun_with

  idle : is_waiting (slice_get l.machine.tasks t) ≡ false
  idle = part_idle w k P F on

  module _ {pool : PoolValue} {news : List ChunkValue} (T : TakesAll w.pool pool p.task (take_by (small_words p.heap.chunks)) [] news) (j : ReservedVecValue EntryValue) where
    abbrev ks : List ChunkValue
    ks = T.numbers.chunks

    abbrev pub w' : SharedValue
    w' = record w { pool = pool; journal = record { items = w.journal.items ++ e ∷ []; room = j.room } }

    abbrev v' : Memory
    v' = value_of w'

    -- OWNERS
    owner_new : (c : ℕ) → has_chunk ks c ≡ true → v'.owner c ≡ Some t
    owner_new c h = (taken_are_owned w.pool pool p.task (take_by (small_words p.heap.chunks)) [] news T c).0 h

    owner_same : (c : ℕ) → has_chunk ks c ≡ false → v'.owner c ≡ v.owner c
    owner_same c h = (taken_are_owned w.pool pool p.task (take_by (small_words p.heap.chunks)) [] news T c).1 h

    were_free : (c : ChunkValue) → In ks c → v.owner c.number ≡ None
    were_free c i = ap (option_map (λ z. z.owner)) (read_in (λ (x : ChunkValue). slot_in w.pool.slots x.number ≡ None) ks c i T.numbers.numbered.were_free)

    owner_kept : (c u : ℕ) → v.owner c ≡ Some u → v'.owner c ≡ Some u
    owner_kept c u q = elim (cases_Bool (has_chunk ks c)) [
      | inl h ↦ let n = chunk_in ks c h in let a : v.owner c ≡ None = ap v.owner (sym n.2) ∙ were_free n.0 n.1 in absurd cc
      | inr h ↦ owner_same c h ∙ q
    ]

    owner_taken : (c u : ℕ) → v'.owner c ≡ Some u → (v.owner c ≡ Some u) ⊎ ((is_waiting (slice_get l.machine.tasks u) ≡ false) × (is_some (slice_get l.machine.tasks u) ≡ true))
    owner_taken c u q = elim (cases_Bool (has_chunk ks c)) [
      | inl h ↦
          let same : u ≡ t = same_Some u t (sym q ∙ owner_new c h) in
          inr (ap (λ z. is_waiting (slice_get l.machine.tasks z)) same ∙ idle, ap (λ z. is_some (slice_get l.machine.tasks z)) same ∙ ap is_some F.fits.is)
      | inr h ↦ inl (sym (owner_same c h) ∙ q)
    ]

    units_stay : (o : ℕ) → KeepsUnits w.pool pool o
    units_stay = all_taken_keep w.pool pool p.task (take_by (small_words p.heap.chunks)) [] news T

    moves : MovesNothing w w' e
    moves = record {
      enters = record { journal = refl; program = refl; settings = refl; halted = refl };
      quiet = tt;
      tasks = refl;
      limit = T.limit;
      keeps = units_stay;
      same = change.same_objects asks begun_with (λ z. refl) pool owner_kept owner_taken;
      notes = λ u n. record { keeps = refl; kept = refl; marked = refl };
      marks = λ u m. absurd m;
      counts = (
        record { node = λ u. refl; task_out = λ u. refl; steps = refl; outputs = refl },
        T.numbers.numbered.units ∙ ap (λ n. units_in_use w.pool + n) (T.numbers.count ∙ sym (take_is w k p I F)),
        refl,
      );
    }

    -- THE COLLECTION
    abbrev b : Begun
    b = record { roots = roots_of w p; news = map number_of ks }

    abbrev before : Memory
    before = with_belongings v t (belongings_of_part P)

    abbrev own_belongings : before.belongings t ≡ belongings_of_part P
    own_belongings = at_belongings v t (belongings_of_part P)

    H : BelongingsStand before (rested l t) t
    H = belongings_stand w k P I F on

    since_same : p.heap.since ≡ (heap_of (rested l t) t).since
    since_same = ap (λ (z : Belongings). z.since) (sym own_belongings) ∙ H.since

    idle_before : (heap_of (rested l t) t).begun ≡ None
    idle_before = rested_view (λ (z : Heap). z.begun) (λ z. refl) l t ∙ account_idle w k P F on (begin_idle asks)

    begun_at : Some (take_of l.machine (heap_of (rested l t) t)) ≡ (heap_of (rested l t) t).begun → Some b ≡ p.begun
    begun_at q = let e : Some (take_of l.machine (heap_of (rested l t) t)) ≡ None = q ∙ idle_before in absurd cc

    account_same : heap_of (rested L t) t ≡ begun_with (heap_of (rested l t) t)
    account_same = change.account_same asks begun_with (λ z. refl) pool owner_kept p.heap.since (Some b) (λ z. refl) (λ z. refl) since_same

    take_rested : take_of l.machine (heap_of (rested l t) t) ≡ length (map number_of ks)
    take_rested =
        rested_view (take_of l.machine) (λ z. refl) l t
        ∙ (take_is w k p I F ∙ (sym T.numbers.count ∙ sym (length-map ks number_of)))

    new_is : (n : ℕ) → In (map number_of ks) n → (c : ChunkValue) × In ks c × (c.number ≡ n)
    new_is n i = map_in number_of ks n i

    -- no new chunk is one of the heap's
    new_apart : (n : ℕ) (c : Chunk) → In (map number_of ks) n → In (before.belongings t).chunks c → c.number ≡ n → ⊥
    new_apart n c i q z =
        let x = new_is n i in
        let a : v.owner n ≡ Some t = ap v.owner (sym z) ∙ H.owned c q in
        let b : v.owner n ≡ None = ap v.owner (sym x.2) ∙ were_free x.0 x.1 in
        absurd cc

    -- nor is its number
    pub new_fresh : (c : ChunkValue) → In ks c → IsFresh p.heap.chunks c.number
    new_fresh c i = new_fresh_by_cases (place_in p.heap.chunks c.number) refl
      where
        new_fresh_by_cases : (o : Option ℕ) → place_in p.heap.chunks c.number ≡ o → IsFresh p.heap.chunks c.number
        new_fresh_by_cases None q = q
        new_fresh_by_cases (Some n) q =
            let x = link.placed_in p.heap.chunks c.number n q in
            absurd (new_apart c.number (chunk_of x.0) (in_map number_of ks c i) (subst (λ (z : Belongings). In z.chunks (chunk_of x.0)) (sym own_belongings) (in_map chunk_of p.heap.chunks x.0 x.1)) x.2)

    -- THE PART, whose heap may have other spare capacities
    module _ (slots spare : ℕ) where
      abbrev g : LeafHeapValue
      g = with_places p.heap slots spare

      abbrev Q : Private
      Q = record P { heap = g; begun = Some b }

      abbrev after_ : Memory
      after_ = with_belongings v' t (belongings_of_part Q)

      abbrev here' : after_.belongings t ≡ belongings_of_part Q
      here' = at_belongings v' t (belongings_of_part Q)

      part_same : SameObjects before after_ (rested l t) (rested L t)
      part_same = change.kept_same asks begun_with (λ z. refl) pool owner_kept p.heap.since (Some b) (λ z. refl) (λ z. refl) since_same owner_taken begun_at

      begins_so : LeafCollectionBegins before after_ (rested l t) (rested L t) t b
      begins_so = record {
        belongings = here' ∙ ap (λ (z : Belongings). record z { begun = Some b }) (sym own_belongings);
        heap = account_same ∙ ap₂ (λ n ns. record (heap_of (rested l t) t) { begun = Some n; survivors = ns }) take_rested (sym (within_rested l t t));
        once = distinct_numbers ks T.numbers.numbered.apart;
        owned = λ n i. let x = new_is n i in ap v'.owner (sym x.2) ∙ owner_new x.0.number (has_own ks x.0 x.0.number x.1 refl);
        apart = new_apart;
      }

      begun_stands : BegunStands after_ (rested L t) t b
      begun_stands =
          begins before after_ (rested l t) (rested L t) t F.fits.task b (rested_sound l t (legal_knows w.program w.settings w.journal.items I.legal).sound) (fits_now w k P F on).stands
          (ap (λ (m : MachineState). slice_get m.tasks t) (heap_machine l t let_go) ∙ F.fits.is) (status w k P I F on) (rested_worker l t) (waits_rest l t (idle_rest w I on)) (are_roots w k p I F on) begins_so

      measured_then : IsMeasured pool Q
      measured_then = (measured_kept w.pool pool t p.heap.chunks (units_stay t) F.measured.0, all_taken_units w.pool pool p.task (take_by (small_words p.heap.chunks)) [] news T)

      pub begin_entered : LeafEntered w w' e (record p { heap = g; begun = Some b })
      begin_entered = leaf.leaf_entered asks (λ u q. q) moves g (Some b) (quiet_own I free moves k p g (Some b) F (places_form p.heap slots spare F.form) measured_then part_same begun_stands)
