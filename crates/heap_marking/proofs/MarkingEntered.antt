-- An entry that marks a heap further: the shared value after it, and the parts.
use Rattle.heap_marking.proofs.Common.{◌≡◌, ℕ, ◌+◌, min, Option, Some, None, List, [], ◌∷◌, ◌++◌, Contains, length, slice_get, inl, inr, refl, ap, sym, subst, ◌∙◌, cases_eq, contains_from_in, in_take, reached_within, MachineState, row_of, is_joined, Took, Ran, Chunk, Begin, End, PutOff, Mark, More, Sweep, Fuel, EntryValue, Heap, Ledger, heap_of, left_in, marked_in, or_fresh, with_heap, after, heap_machine, Addr, HasObjectAt, RefersTo, Located, distinct_take, MarkingValue, marked_of, IsInSnapshot, MarkStarts, heap_then, with_at, with_off, Rests, In, Memory, object_name, objects, SameObjects, CountsGo, IsMarked, IsQuiet, CanGoOnMarking, MarkedBy, kept, AreLaidOut, ChunksHaveNames, BelongingsStand, IsBy, belongings_kept, SharedValue, accounts, marks_at, tree_counts_of, value_of, IsSharedValue, EachPartStillFits, refused, entry_on, MovesNothing, quiet_others, quiet_world, all_kept, stands_now, MarksEnter}

-- belongings whose account differs only in its count of marks
belongings_marked : (v v' : Memory) (l L : Ledger) (t : ℕ) (o : Option ℕ) → v'.belongings t ≡ v.belongings t → ((k : ℕ) → v.owner k ≡ Some t → v'.owner k ≡ Some t) → L.machine ≡ l.machine → heap_of L t ≡ record (heap_of l t) { marked = o } → BelongingsStand v l t → BelongingsStand v' L t
belongings_marked v v' l L t o belongings owner machine heap H =
    let before : BelongingsStand v' l t = belongings_kept v v' l l t belongings owner refl refl refl H in
    record {
      names = subst (ChunksHaveNames (v'.belongings t).chunks) (sym heap) (record { small = before.names.small; large = before.names.large });
      room = before.room ∙ sym (ap (λ (h : Heap). h.room) heap);
      since = before.since ∙ sym (ap (λ (h : Heap). h.since) heap);
      count = λ live. before.count (ap (λ (m : MachineState). is_joined (slice_get m.tasks t)) (sym machine) ∙ live) ∙ ap (λ (m : MachineState). length (row_of (slice_get m.store t))) (sym machine);
      owned = before.owned;
      inside = before.inside;
      once = before.once;
      named = before.named;
      laid = subst (λ (h : Heap). AreLaidOut (v'.belongings t).chunks h.reserved) (sym heap) before.laid;
    }

module _ (w : SharedValue) (e : EntryValue) (I : IsSharedValue w) (free : refused w e ≡ None) (quiet : IsQuiet e.kind) (t : ℕ) (m : MarkingValue) (marks : List (Option MarkingValue)) (room : ℕ)
    (at_t : marks_at marks t ≡ Some m) (off_t : (u : ℕ) → (u ≡ t → ⊥) → marks_at marks u ≡ marks_at w.marks u) (only : (u : ℕ) → IsMarked e.kind u → u ≡ t) (is_marked : IsMarked e.kind t) (by_none : (u : ℕ) → IsBy e.kind u → ⊥) where
  abbrev pub l : Ledger
  l = accounts w

  abbrev pub L : Ledger
  L = after w.program w.settings l e

  abbrev pub w' : SharedValue
  w' = record w { marks = marks; journal = record { items = w.journal.items ++ e ∷ []; room = room } }

  abbrev v : Memory
  v = value_of w

  abbrev v' : Memory
  v' = value_of w'

  module _ (machine : L.machine ≡ l.machine) (heap_t : heap_of L t ≡ record (heap_of l t) { marked = Some (length (marked_of m)) }) (heaps : (u : ℕ) → (u ≡ t → ⊥) → heap_of L u ≡ heap_of l u)
      (counts : CountsGo w.program w.settings l (tree_counts_of w) (tree_counts_of w') e.worker e.kind) (G : CanGoOnMarking v t (heap_of l t).snapshot m) where
    worker_same : (u : ℕ) → (heap_of L u).worker ≡ (heap_of l u).worker
    worker_same u = elim (cases_eq u t) [
      | inl q ↦ ap (λ z. (heap_of L z).worker) q ∙ (ap (λ (h : Heap). h.worker) heap_t ∙ ap (λ z. (heap_of l z).worker) (sym q))
      | inr ne ↦ ap (λ (h : Heap). h.worker) (heaps u ne)
    ]

    belongings_at : (u : ℕ) → Rests L u → BelongingsStand v' L u
    belongings_at u r =
        let H : BelongingsStand v l u = (stands_now w I (entry_on w e free)).belongings.belongings u (sym (worker_same u) ∙ r) in
        elim (cases_eq u t) [
          | inl q ↦ subst (BelongingsStand v' L) (sym q) (belongings_marked v v' l L t (Some (length (marked_of m))) refl (λ k o. o) machine heap_t (subst (BelongingsStand v l) q H))
          | inr ne ↦ belongings_kept v v' l L u refl (λ k o. o) (heaps u ne) (ap (λ (z : MachineState). length (row_of (slice_get z.store u))) machine) (ap (λ (z : MachineState). is_joined (slice_get z.tasks u)) machine) H
        ]

    same_objects_marked : SameObjects v v' l L
    same_objects_marked = record {
      belongings = belongings_at;
      objects = λ u. refl;
      chunks = λ u h. refl;
      frames = λ u. refl;
      result = λ u. refl;
      view = λ u. refl;
      owner = λ k u o. o;
      taken = λ k u o. inl o;
      begun = λ u h. refl;
      sources = λ u. refl;
    }

    -- what is marked is in the snapshot
    goes_then : CanGoOnMarking v' t (heap_of L t).snapshot m
    goes_then =
        subst (λ ns. CanGoOnMarking v' t ns m) (sym (ap (λ (h : Heap). h.snapshot) heap_t))
        (record {
          fork = G.fork;
          marks = G.marks;
          there = G.there;
          were = G.were;
          overwritten = G.overwritten;
          snapshot = G.snapshot;
          once = G.once;
          marked = G.marked;
          followed = G.followed;
          slots = G.slots;
          spare = G.spare;
          places = G.places;
        })

    each_marked : (a : Addr) → In (marked_of m) a → (q : Located) × In (objects v' t) q × (q.at ≡ a) × In (heap_of L t).snapshot (object_name q)
    each_marked a i =
        let found : Contains m.found a = contains_from_in m.found a (in_take m.marked m.found a i) in
        let reached = G.marks.each a found in
        let held : HasObjectAt G.fork.heap a = reached_within (MarkStarts G.fork (kept v t)) (RefersTo G.fork.heap) (HasObjectAt G.fork.heap) (λ x s. s.0) (λ b x h d. d.1) a reached in
        let o = G.were a held in
        (o.0, o.1, o.2, subst (λ (h : Heap). In h.snapshot (object_name o.0)) (sym heap_t) ((G.snapshot o.0 o.1).0 (subst (λ b. IsInSnapshot G.fork (kept v t) b) (sym o.2) reached)))

    marked_now : MarkedBy v' L t (Some m)
    marked_now = (
      record { count = ap (λ (h : Heap). h.marked) heap_t; once = distinct_take m.marked m.found G.once; each = each_marked },
      goes_then,
    )

    moves : MovesNothing w w' e
    moves = record {
      enters = record { journal = refl; program = refl; settings = refl; halted = refl };
      quiet = quiet;
      tasks = refl;
      limit = refl;
      keeps = all_kept w.pool;
      same = same_objects_marked;
      notes = λ u none. record { keeps = refl; kept = refl; marked = off_t u (λ q. none (subst (IsMarked e.kind) (sym q) is_marked)) };
      marks = λ u k. record { keeps = refl; kept = refl; marks = subst (λ z. MarkedBy v' L z (marks_at marks z)) (sym (only u k)) (subst (MarkedBy v' L t) (sym at_t) marked_now) };
      counts = counts;
    }

    -- every part that fits still fits
    pub marking_made : IsSharedValue w' × EachPartStillFits w w'
    marking_made = (quiet_world I free moves, λ u q F. quiet_others I free moves u q (by_none q.task) F)

-- THE LAW
heap_by : (l : Ledger) (t n : ℕ) (f : Heap → Heap) → ((h : Heap) → f h ≡ record h { marked = (f h).marked }) → (heap_of (with_heap l t f) t).marked ≡ Some n → heap_of (with_heap l t f) t ≡ record (heap_of l t) { marked = Some n }
heap_by l t n f alone count = heap_by_cases (slice_get l.heaps t) refl
  where
    none_some : {A : Type 0} → ◌≡◌ {A = Option ℕ} None (Some n) → A
    none_some q = absurd cc

    heap_by_cases : (o : Option Heap) → slice_get l.heaps t ≡ o → heap_of (with_heap l t f) t ≡ record (heap_of l t) { marked = Some n }
    heap_by_cases None e = none_some (sym (ap (λ z. (or_fresh z).marked) (with_at l t f ∙ ap (heap_then f) e)) ∙ count)
    heap_by_cases (Some h) e =
        let is : heap_of (with_heap l t f) t ≡ f h = ap or_fresh (with_at l t f ∙ ap (heap_then f) e) in
        let then_ : (f h).marked ≡ Some n = ap (λ (z : Heap). z.marked) (sym is) ∙ count in
        is ∙ (alone h ∙ (ap (λ o. let z : Heap = record h { marked = o } in z) then_ ∙ ap (λ z. let y : Heap = record (or_fresh z) { marked = Some n } in y) (sym e)))

pub marks_enter : MarksEnter
marks_enter w k (Mark u) t m marks room I free just at off count G =
    let e : EntryValue = record { worker = k; kind = Mark u } in
    let l : Ledger = accounts w in
    let f : Heap → Heap = λ h. record h { marked = Some 0 } in
    let only : (z : ℕ) → IsMarked e.kind z → z ≡ t = λ z q. sym q ∙ just in
    let heaps : (z : ℕ) → (z ≡ t → ⊥) → heap_of (with_heap l u f) z ≡ heap_of l z = λ z ne. ap or_fresh (with_off l u z f (λ q. ne (q ∙ just))) in
    let heap_t : heap_of (with_heap l u f) t ≡ record (heap_of l t) { marked = Some (length (marked_of m)) } =
    subst (λ z. heap_of (with_heap l u f) z ≡ record (heap_of l z) { marked = Some (length (marked_of m)) }) just (heap_by l u (length (marked_of m)) f (λ h. refl) (ap (λ z. (heap_of (with_heap l u f) z).marked) just ∙ count)) in
    let counts : CountsGo w.program w.settings l (tree_counts_of w) (tree_counts_of w) k (Mark u) = (record { node = λ z. refl; task_out = λ z. refl; steps = refl; outputs = refl }, refl, refl) in
    marking_made w e I free tt t m marks room at off only just (λ z q. q) (heap_machine l u f) heap_t heaps counts G
marks_enter w k (More u n) t m marks room I free just at off count G =
    let e : EntryValue = record { worker = k; kind = More u n } in
    let l : Ledger = accounts w in
    let f : Heap → Heap = λ h. record h { marked = Some (marked_in h + min n (left_in h)) } in
    let only : (z : ℕ) → IsMarked e.kind z → z ≡ t = λ z q. sym q ∙ just in
    let heaps : (z : ℕ) → (z ≡ t → ⊥) → heap_of (with_heap l u f) z ≡ heap_of l z = λ z ne. ap or_fresh (with_off l u z f (λ q. ne (q ∙ just))) in
    let heap_t : heap_of (with_heap l u f) t ≡ record (heap_of l t) { marked = Some (length (marked_of m)) } =
    subst (λ z. heap_of (with_heap l u f) z ≡ record (heap_of l z) { marked = Some (length (marked_of m)) }) just (heap_by l u (length (marked_of m)) f (λ h. refl) (ap (λ z. (heap_of (with_heap l u f) z).marked) just ∙ count)) in
    let counts : CountsGo w.program w.settings l (tree_counts_of w) (tree_counts_of w) k (More u n) = (record { node = λ z. refl; task_out = λ z. refl; steps = refl; outputs = refl }, refl, refl) in
    marking_made w e I free tt t m marks room at off only just (λ z q. q) (heap_machine l u f) heap_t heaps counts G
marks_enter w k (Took u) t m marks room I free just at off count G = absurd just
marks_enter w k (Ran u n) t m marks room I free just at off count G = absurd just
marks_enter w k (Chunk u) t m marks room I free just at off count G = absurd just
marks_enter w k (Begin u) t m marks room I free just at off count G = absurd just
marks_enter w k (End u a b c) t m marks room I free just at off count G = absurd just
marks_enter w k (PutOff u) t m marks room I free just at off count G = absurd just
marks_enter w k (Sweep u n) t m marks room I free just at off count G = absurd just
marks_enter w k Fuel t m marks room I free just at off count G = absurd just
