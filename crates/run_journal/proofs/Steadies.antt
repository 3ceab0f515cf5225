-- The counts of the accounts of every legal journal fit their types.
use Rattle.run_journal.proofs.Common.{◌≡◌, ℕ, zero, suc, ◌+◌, ◌*◌, ◌<◌, ◌≤◌, ◌^◌, ◌||◌, Bool, true, false, cond, Option, Some, None, List, [], ◌∷◌, ◌++◌, length, slice_get, slice_set, nat_lt, is_none, is_some, inl, inr, refl, ap, sym, subst, ◌∙◌, arith, length-append, length-set, false≢true, and_parts, in_from_contains, Kind, Took, Ran, Chunk, Begin, End as EndOf, PutOff, Mark, More, Sweep, Fuel, EntryValue, SettingsValue, AreSettings, ProgramText, Name, MachineState, step, can_step, asked, next_name, Heap, Ledger, Pool, heap_of, heap_at, or_fresh, fresh, words_in, units_in, in_use, is_small_size, lacks_room, with_allocation, with_heap, with_heap_at, let_go, forked_heap, merged, emptied, collected, swept_heap, allocated_in, allocated_by, stepped_to, task_step, task_steps, is_due, is_in_need, is_private, standing, on_asked, refusal, after_kind, after, chunk_units, with_chunk, opening, ledger_of, is_legal, is_legal_from, store_words, stepped_machine, SoundLedger, heap_names, collecting, Moves, placed_since, SoundAt, heap_of_task, can_tells, task_step_sound, weight, weight_additive, total, total_set, moves_total, collected_weight, swept_weight, StockedLedger, G, L, with_heap_any, same_weight, chunk_lighter, allocated_total, task_step_stocked, legal_stocked, BookedLedger, task_steps_booked, heap_words, legal_booked, legal_sound, entry_tells, out_tells, after_cut, cut_legal, asked_bounds, stands_by, ran_tells, task_steps_steps, steps_are_bounded, since_additive, since_in, Steady, StaysSteady, small_enough, one_each, Snaps, snaps_set, snaps_allocated, snaps_settled, sound_paired, one_of, step_used}

-- the most words of one object, in the runs that legal journals have
abbrev most : ℕ
most = 2 ^ 31

-- what is held, and what was allocated, came step by step; and each step makes at most two tasks
record Light (l : Ledger) : Type 0 where
  names : total (weight one_each) l.heaps ≤ l.steps
  snapshots : Snaps l.steps l
  since : total since_in l.heaps ≤ l.steps * most
  heaps : length l.heaps ≤ 2 * l.steps + 1
  store : store_words l.machine.store ≤ l.steps * most

-- ONE STEP

module _ (p : ProgramText) (s : SettingsValue) (A : AreSettings s) (l : Ledger) (t : ℕ) (S : SoundAt t l) (I : StockedLedger l) (B : BookedLedger p s l) (X : Light l) (can : can_step l.machine t ≡ true)
    (fine : (is_due s p l t || is_in_need p l t) ≡ false) where
  abbrev m : MachineState
  m = l.machine

  abbrev m' : MachineState
  m' = step p l.machine t

  abbrev b : Ledger
  b = allocated_in p l t

  abbrev k : Ledger
  k = stepped_to (allocated_in p l t) t (step p l.machine t)

  abbrev heap : (h : Heap) × (slice_get l.heaps t ≡ Some h)
  heap = heap_of_task l t S.0 (can_tells l.machine t can).1

  reserved_few : heap.0.reserved < 2 ^ 20
  reserved_few =
      let a = one_of (units_in m) l.heaps t refl in
      let c : units_in m (or_fresh (slice_get l.heaps t)) ≡ units_in m heap.0 = ap (λ o. units_in m (or_fresh o)) heap.1 in
      let d : in_use l ≤ s.chunks = B.within in
      let g : s.chunks ≤ 65536 = A.chunks.1 in
      omega arith

  few : (w : ℕ) → asked p m t ≡ Some w → w < most
  few w e =
      let lacks : lacks_room heap.0 w ≡ false = ap (λ o. lacks_room (or_fresh o) w) (sym heap.1) ∙ (asked_bounds s (heap_of l t) (asked p m t) w e fine).1 in
      small_enough heap.0 w (is_small_size w) refl lacks reserved_few

  placed_long : (w : ℕ) → length (allocated_by l t (Some w)).heaps ≡ length l.heaps
  placed_long w = with_heap_any (λ q. length q.heaps ≡ length l.heaps) l t _ refl (λ h e. length-set l.heaps t _)

  -- after the allocation
  record Placed (q : Ledger) : Type 0 where
    names : total (weight one_each) q.heaps ≤ l.steps + 1
    since : total since_in q.heaps ≤ l.steps * most + most
    heaps : length q.heaps ≡ length l.heaps

  placed_by : (o : Option ℕ) → asked p m t ≡ o → Placed (allocated_by l t o)
  placed_by None e = record {
    names = let c = X.names in omega arith;
    since = let c = X.since in omega arith;
    heaps = refl;
  }
  placed_by (Some w) e = record {
    names = let c = X.names in let d = allocated_total one_each l t heap.0 heap.1 w in omega arith;
    since =
        let c = X.since in
        let d = total_set since_in l.heaps t heap.0 (with_allocation heap.0 (next_name t l.machine.store) w) heap.1 in
        let g = placed_since heap.0 (next_name t l.machine.store) w in
        let i = few w e in
        let j : total since_in (allocated_by l t (Some w)).heaps ≡ total since_in (slice_set l.heaps t (with_allocation heap.0 (next_name t l.machine.store) w)) =
        ap (λ (q : Ledger). total since_in q.heaps) (ap (with_heap_at l t (λ h. with_allocation h (next_name t l.machine.store) w)) heap.1) in
        omega arith;
    heaps = placed_long w;
  }

  moved_long : (heaps heaps' : List Heap) → Moves t m.tasks heaps heaps' → length heaps' ≤ length heaps + 2
  moved_long heaps heaps' (inl e) = let a = ap length e in omega arith
  moved_long heaps heaps' (inr (inl g)) = let a = ap length g.is in let c = length-set heaps t (let_go g.heap) in omega arith
  moved_long heaps heaps' (inr (inr (inl g))) =
      let a = ap length g.is in
      let c = length-set (heaps ++ fresh ∷ fresh ∷ []) t (forked_heap g.names g.heap) in
      let d = length-append heaps (fresh ∷ fresh ∷ []) in
      omega arith
  moved_long heaps heaps' (inr (inr (inr g))) =
      let a = ap length g.is in
      let c = length-set heaps g.parent (merged g.own g.left g.right) in
      let d = length-set (slice_set heaps g.parent (merged g.own g.left g.right)) g.child (emptied g.left) in
      let e = length-set (slice_set (slice_set heaps g.parent (merged g.own g.left g.right)) g.child (emptied g.left)) (g.child + 1) (emptied g.right) in
      omega arith

  steps_k : k.steps ≡ l.steps + 1
  steps_k = let a = task_steps_steps p 1 l t in steps_k_by_cases (can_step l.machine t) can a
    where
      steps_k_by_cases : (v : Bool) → v ≡ true → (cond v (stepped_to (allocated_in p l t) t (step p l.machine t)) (record l { steps = l.steps + 1 })).steps ≡ l.steps + 1 → k.steps ≡ l.steps + 1
      steps_k_by_cases true e q = q
      steps_k_by_cases false e q = absurd (false≢true e)

  stored_by : (o : Option ℕ) → asked p m t ≡ o → store_words m'.store ≤ store_words m.store + most
  stored_by None e = let a = (G p l t S I can).none e in omega arith
  stored_by (Some w) e = let a = (G p l t S I can).some w e in let c = ((G p l t S I can).new w e).1 in let d = few w e in omega arith

  step_light : Light k
  step_light =
      let q = placed_by (asked p m t) refl in
      let moves = (L p l t S I can).2 in
      let sk = steps_k in
      record {
        names = let a = moves_total (weight one_each) (weight_additive one_each) t m.tasks b.heaps k.heaps moves in let d : total (weight one_each) b.heaps ≤ l.steps + 1 = q.names in omega arith;
        snapshots =
            subst (λ n. Snaps n k) (sym sk)
            (snaps_settled (l.steps + 1) (record b { machine = m'; steps = b.steps + 1 }) t q.names
            (snaps_allocated (l.steps + 1) l t (asked p m t) (λ u. let c = X.snapshots u in omega arith)) m'.end);
        since = let a = moves_total since_in since_additive t m.tasks b.heaps k.heaps moves in let d : total since_in b.heaps ≤ l.steps * most + most = q.since in omega arith;
        heaps = let a = moved_long b.heaps k.heaps moves in let d : length b.heaps ≡ length l.heaps = q.heaps in let e : length l.heaps ≤ 2 * l.steps + 1 = X.heaps in omega arith;
        store =
            let a = stored_by (asked p m t) refl in
            let d = X.store in
            subst (λ (z : MachineState). store_words z.store ≤ k.steps * most) (sym (stepped_machine b t m')) (omega arith);
      }

module _ (p : ProgramText) (s : SettingsValue) (A : AreSettings s) where
  -- the invariant of steps
  record Firm (t : ℕ) (l : Ledger) : Type 0 where
    sound : SoundAt t l
    stocked : StockedLedger l
    booked : BookedLedger p s l
    light : Light l

  idle_light : (l : Ledger) → Light l → Light (record l { steps = l.steps + 1 })
  idle_light l X = let a = X.names in let b = X.since in let c = X.heaps in let e = X.store in record { names = omega arith; snapshots = λ u. (let d = X.snapshots u in omega arith); since = omega arith; heaps = omega arith; store = omega arith }

  task_step_light : (l : Ledger) (t : ℕ) → SoundAt t l → StockedLedger l → BookedLedger p s l → Light l → (is_due s p l t || is_in_need p l t) ≡ false → Light (task_step p l t)
  task_step_light l t S I B X fine = task_step_light_by_cases (can_step l.machine t) refl
    where
      task_step_light_by_cases : (v : Bool) → can_step l.machine t ≡ v → Light (cond v (stepped_to (allocated_in p l t) t (step p l.machine t)) (record l { steps = l.steps + 1 }))
      task_step_light_by_cases false e = idle_light l X
      task_step_light_by_cases true e = step_light p s A l t S I B X e fine

  stands_one : (l : Ledger) (t : ℕ) → (is_due s p l t || is_in_need p l t) ≡ false → 1 ≤ standing s p l t 1
  stands_one l t fine = stands_one_by_cases (is_due s p l t || is_in_need p l t) (is_private p l.machine t) fine
    where
      stands_one_by_cases : (a b : Bool) → a ≡ false → 1 ≤ cond a 0 (cond b (suc (standing s p (task_step p l t) t 0)) 1)
      stands_one_by_cases true b e = absurd (false≢true (sym e))
      stands_one_by_cases false true e = omega arith
      stands_one_by_cases false false e = omega arith

  step_firm : (l : Ledger) (t : ℕ) → Firm t l → (is_due s p l t || is_in_need p l t) ≡ false → Firm t (task_step p l t)
  step_firm l t F fine = record {
    sound = task_step_sound p l t F.sound;
    stocked = task_step_stocked p l t F.sound F.stocked;
    booked = task_steps_booked p s 1 l t F.sound F.stocked F.booked (stands_one l t fine);
    light = task_step_light l t F.sound F.stocked F.booked F.light fine;
  }

  steps_firm : (i k : ℕ) (l : Ledger) (t : ℕ) → Firm t l → i ≤ standing s p l t k → Firm t (task_steps p l t i)
  steps_firm zero k l t F le = F
  steps_firm (suc i) zero l t F le = absurd (omega arith)
  steps_firm (suc i) (suc k) l t F le =
      elim (stands_by p s t l i (is_due s p l t || is_in_need p l t) (is_private p l.machine t) (standing s p (task_step p l t) t k) le) [
        | inl q ↦ steps_firm i k (task_step p l t) t (step_firm l t F q.0) q.1.1
        | inr q ↦ subst (λ j. Firm t (task_steps p (task_step p l t) t j)) (sym q.1) (step_firm l t F q.0)
      ]

  -- the words of one heap are at most those of the chunks in use
  heap_few : (l : Ledger) → SoundLedger l → BookedLedger p s l → (t : ℕ) (o : Option Heap) → heap_at l t ≡ o → words_in l.machine (or_fresh o) < 2 ^ 27
  heap_few l S B t None e = omega arith
  heap_few l S B t (Some h) e =
      let a = heap_words l.machine h (B.each t h e).full in
      let b = one_of (units_in l.machine) l.heaps t refl in
      let c : units_in l.machine (or_fresh (slice_get l.heaps t)) ≡ units_in l.machine h = ap (λ o. units_in l.machine (or_fresh o)) e in
      let d : in_use l ≤ s.chunks = B.within in
      let f : s.chunks ≤ 65536 = A.chunks.1 in
      omega arith

  steady_by : (l : Ledger) → SoundLedger l → BookedLedger p s l → Light l → l.steps < 2 ^ 30 → Steady l
  steady_by l S B X few =
      let c : in_use l ≤ s.chunks = B.within in
      let d : s.chunks ≤ 65536 = A.chunks.1 in
      let y = X.since in
      let z = X.heaps in
      record {
        steps = few;
        heaps = omega arith;
        words = λ t. heap_few l S B t (heap_at l t) refl;
        units = λ t. let a = one_of (units_in l.machine) l.heaps t refl in omega arith;
        in_use = omega arith;
        since = λ t. let a = one_of since_in l.heaps t refl in omega arith;
        snapshot = λ t. let a = X.snapshots t in omega arith;
        paired = sound_paired l S;
        owned = λ t n i. (S.owners t n (in_from_contains (heap_names (slice_get l.heaps t)) n i)).1;
      }

  -- ENTRIES

  lighter : (l : Ledger) (t : ℕ) (f : Heap → Heap) → ((h : Heap) (g : Name → ℕ) → weight g (f h) ≤ weight g h) → ((h : Heap) → (f h).since ≤ h.since) → ((h : Heap) → length (f h).snapshot ≤ length h.snapshot) → Light l → Light (with_heap l t f)
  lighter l t f less shorter fewer X =
      with_heap_any Light l t f X (λ h e. record {
        names = let a = total_set (weight one_each) l.heaps t h (f h) e in let b = less h one_each in let c = X.names in omega arith;
        snapshots = subst (λ (q : Ledger). Snaps l.steps q) (ap (with_heap_at l t f) e) (snaps_set l.steps l t f (λ g le. let a = fewer g in omega arith) X.snapshots);
        since = let a = total_set since_in l.heaps t h (f h) e in let b = shorter h in let c = X.since in omega arith;
        heaps = let a = length-set l.heaps t (f h) in let c = X.heaps in omega arith;
        store = X.store;
      })

  chunk_since : (next : Option ℕ) (h : Heap) (b : Bool) → (cond b (record h { chunks = h.chunks ++ [] ∷ []; room = 1024 }) (record h { reserved = chunk_units next })).since ≤ h.since
  chunk_since next h true = omega arith
  chunk_since next h false = omega arith

  chunk_snapshot : (next : Option ℕ) (h : Heap) (b : Bool) → length (cond b (record h { chunks = h.chunks ++ [] ∷ []; room = 1024 }) (record h { reserved = chunk_units next })).snapshot ≤ length h.snapshot
  chunk_snapshot next h true = omega arith
  chunk_snapshot next h false = omega arith

  chunk_light : (l : Ledger) (t : ℕ) (next : Option ℕ) (full : Bool) (end : Ledger) → Light end → Light l → Light (cond full end (with_heap l t (with_chunk next)))
  chunk_light l t next true end E X = E
  chunk_light l t next false end E X = lighter l t (with_chunk next) (λ h g. chunk_lighter next h g (on_asked next is_small_size)) (λ h. chunk_since next h (on_asked next is_small_size)) (λ h. chunk_snapshot next h (on_asked next is_small_size)) X

  ended_light : (l : Ledger) (n : ℕ) → Light l → Light (record l { end = Some (Pool n) })
  ended_light l n X = record { names = X.names; snapshots = X.snapshots; since = X.since; heaps = X.heaps; store = X.store }

  kind_light : (l : Ledger) (w : ℕ) (kind : Kind) → SoundLedger l → StockedLedger l → BookedLedger p s l → is_none (refusal p s l (record { worker = w; kind = kind })) ≡ true → Light l → Light (after_kind p s l w kind)
  kind_light l w (Took t) S I B h X = lighter l t _ (λ h g. same_weight h g) (λ h. omega arith) (λ h. omega arith) X
  kind_light l w (Ran t k) S I B h X =
      let r = (entry_tells p s l (record { worker = w; kind = Ran t k }) h).2 in
      (steps_firm k k l t (record { sound = (S, (out_tells l w t _ r).1); stocked = I; booked = B; light = X }) (ran_tells p s l w t k h).1).light
  kind_light l w (Chunk t) S I B h X =
      chunk_light l t (asked p l.machine t) (nat_lt s.chunks (in_use l + chunk_units (asked p l.machine t))) (record l { end = Some (Pool (in_use l)) }) (ended_light l (in_use l) X) X
  kind_light l w (Begin t) S I B h X = lighter l t _ (λ h g. same_weight h g) (λ h. omega arith) (λ h. omega arith) X
  kind_light l w (EndOf t a g n) S I B h X = lighter l t (collected l.machine) (λ h f. collected_weight f l.machine h) (λ h. omega arith) (λ h. omega arith) X
  kind_light l w (PutOff t) S I B h X = lighter l t _ (λ h g. same_weight h g) (λ h. omega arith) (λ h. omega arith) X
  kind_light l w (Mark t) S I B h X = lighter l t _ (λ h g. same_weight h g) (λ h. omega arith) (λ h. omega arith) X
  kind_light l w (More t n) S I B h X = lighter l t _ (λ h g. same_weight h g) (λ h. omega arith) (λ h. omega arith) X
  kind_light l w (Sweep t g) S I B h X = lighter l t swept_heap (λ h f. swept_weight f h) (λ h. omega arith) (λ h. omega arith) X
  kind_light l w Fuel S I B h X = record { names = X.names; snapshots = X.snapshots; since = X.since; heaps = X.heaps; store = X.store }

  light_from : (done rest : List EntryValue) → is_legal p s (done ++ rest) ≡ true → Light (ledger_of p s done) → Light (ledger_of p s (done ++ rest))
  light_from done [] legal X = subst (λ j. Light (ledger_of p s j)) (sym (append_none done)) X
    where
      append_none : (xs : List EntryValue) → xs ++ [] ≡ xs
      append_none [] = refl
      append_none (x ∷ xs) = ap (λ ys. x ∷ ys) (append_none xs)
  light_from done (e ∷ rest) legal X =
      let l = ledger_of p s done in
      let cut = cut_legal p s done (e ∷ rest) (opening p s) legal in
      let one = and_parts (is_none (refusal p s l e)) (is_legal_from p s (after p s l e) rest) cut.1 in
      let same : ledger_of p s (done ++ e ∷ []) ≡ after p s l e = after_cut p s done (e ∷ []) (opening p s) in
      let join : (done ++ e ∷ []) ++ rest ≡ done ++ e ∷ rest = again done in
      subst (λ j. Light (ledger_of p s j)) join
      (light_from (done ++ e ∷ []) rest (ap (is_legal p s) join ∙ legal)
      (subst Light (sym same) (kind_light l e.worker e.kind (legal_sound p s done cut.0) (legal_stocked p s done cut.0) (legal_booked p s done cut.0) one.0 X)))
    where
      again : (xs : List EntryValue) → (xs ++ e ∷ []) ++ rest ≡ xs ++ e ∷ rest
      again [] = refl
      again (x ∷ xs) = ap (λ ys. x ∷ ys) (again xs)

  legal_light : (journal : List EntryValue) → is_legal p s journal ≡ true → Light (ledger_of p s journal)
  legal_light journal legal = light_from [] journal legal (record { names = omega arith; snapshots = first; since = omega arith; heaps = omega arith; store = none })
    where
      none : store_words (opening p s).machine.store ≤ 0
      none = omega arith

      first : Snaps 0 (opening p s)
      first zero = omega arith
      first (suc u) = omega arith

  steps_few : (journal : List EntryValue) → is_legal p s journal ≡ true → (ledger_of p s journal).steps ≤ 1000000256
  steps_few journal legal = let a = steps_are_bounded p s journal legal in let b : s.fuel ≤ 1000000000 = A.fuel.1 in omega arith

  pub legal_steady : (journal : List EntryValue) → is_legal p s journal ≡ true → Steady (ledger_of p s journal)
  legal_steady journal legal =
      let a = steps_few journal legal in
      steady_by (ledger_of p s journal) (legal_sound p s journal legal) (legal_booked p s journal legal) (legal_light journal legal) (omega arith)

  pub legal_stored : (journal : List EntryValue) → is_legal p s journal ≡ true → store_words (ledger_of p s journal).machine.store < 2 ^ 62
  legal_stored journal legal = let a = steps_few journal legal in let b = (legal_light journal legal).store in omega arith

  standing_most : (k : ℕ) (l : Ledger) (t : ℕ) → standing s p l t k ≤ k
  standing_most zero l t = omega arith
  standing_most (suc k) l t = standing_most_by_cases (standing s p (task_step p l t) t k) (standing_most k (task_step p l t) t) (is_due s p l t || is_in_need p l t) (is_private p l.machine t)
    where
      standing_most_by_cases : (rest : ℕ) → rest ≤ k → (a b : Bool) → cond a 0 (cond b (suc rest) 1) ≤ suc k
      standing_most_by_cases rest le true b = omega arith
      standing_most_by_cases rest le false true = omega arith
      standing_most_by_cases rest le false false = omega arith

  -- while a task takes steps that fit in one entry
  pub legal_stays : (journal : List EntryValue) (t k : ℕ) → is_legal p s journal ≡ true → is_some (heap_of (ledger_of p s journal) t).begun ≡ false → k ≤ 257 → StaysSteady s p (ledger_of p s journal) t k
  legal_stays journal t k legal idle few =
      let l = ledger_of p s journal in
      let F : Firm t l = record { sound = (legal_sound p s journal legal, collects (heap_at l t) idle); stocked = legal_stocked p s journal legal; booked = legal_booked p s journal legal; light = legal_light journal legal } in
      let a = steps_few journal legal in
      let c = standing_most k l t in
      record {
        steady = λ i le.
            let G = steps_firm i k l t F le in
            let b = task_steps_steps p i l t in
            steady_by (task_steps p l t i) G.sound.0 G.booked G.light (omega arith);
        used = λ i le fine.
            let G = steps_firm i k l t F le in
            step_used p s (task_steps p l t i) t G.sound G.stocked G.booked fine;
      }
    where
      collects : (o : Option Heap) → is_some (or_fresh o).begun ≡ false → collecting o ≡ false
      collects None e = refl
      collects (Some h) e = e
