-- How each entry changes the chunks in use.
use Rattle.run_ledger.proofs.Common.{◌≡◌, ℕ, zero, suc, ◌+◌, ◌-◌, ◌<◌, ◌≤◌, ◌==◌, ◌||◌, not, arith, Bool, true, false, cond, Option, Some, None, List, [], ◌∷◌, ◌++◌, map, length, length-append, slice_get, slice_set, sum_by, nat_lt, is_none, is_some, unwrap_or, ◌⊎◌, inl, inr, refl, ap, sym, subst, ◌∙◌, false≢true, both_ways, ltb-false, eqb-true, cases_lt, not-false, not-true, length-map, sum_by-append, sum_by-cons, same_Some, ProgramText, Kind, Took, Ran, Chunk, Begin, End as EndOf, PutOff, Mark, More, Sweep, Fuel, EntryValue, SettingsValue, Name, MachineState, step, can_step, asked, next_name, packs_are_few, Heap, Ledger, Refused, Pool, chunk_words, units, is_small_size, words_at, units_sum, begun_in, units_in, heap_at, heap_of, or_fresh, with_heap, with_heap_at, in_use, with_allocation, put_last, lacks_room, take_of, collected, end_numbers, swept_heap, sweep_number, in_snapshot, within, left_in, on_asked, allocated_by, allocated_in, stepped_to, task_step, task_steps, is_due, is_in_need, is_private, standing, refusal, after, after_kind, chunk_units, with_chunk, is_out, unless_wrong_number, ledger_of, is_legal, ChunkGoes, UseGoes, EntriesUse, ChunksAreUsed}
use Rattle.std.proofs.lemmas.Bool.{eq-eqb}
use Rattle.run_ledger.proofs.Booked as booked
use Rattle.run_ledger.proofs.Booked.{BookedLedger, asked_runs, put_length, units_additive, total_same, task_step_booked}
use Rattle.run_ledger.proofs.Bounds.{stands_by, ran_tells}
use Rattle.run_ledger.proofs.Journals.{none_unless, none_where, out_tells, wait_tells, entry_tells, legal_sound}
use Rattle.run_ledger.proofs.Laid.{collected_bound, nonempty_length}
use Rattle.run_ledger.proofs.Machine.{stepped_machine}
use Rattle.run_ledger.proofs.Sound.{collecting, SoundLedger}
use Rattle.run_ledger.proofs.Space.{begun_none, legal_booked}
use Rattle.run_ledger.proofs.Steps.{SoundAt, StepLeaves, heap_of_task, task_step_sound}
use Rattle.run_ledger.proofs.Stocks.{StockedLedger, L, task_step_stocked, legal_stocked}
use Rattle.run_ledger.proofs.Weights.{total, total_set, moves_total, kept_weight}
use Rattle.run_ledger.proofs.Exact.{PacksAreSmall, large_exact}

-- ONE STEP

module _ (p : ProgramText) (s : SettingsValue) (packs : PacksAreSmall p) (l : Ledger) (t : ℕ) (S : SoundAt t l) (I : StockedLedger l) (B : BookedLedger p s l) (can : can_step l.machine t ≡ true) (fine : (is_due s p l t || is_in_need p l t) ≡ false) where
  abbrev m : MachineState
  m = l.machine

  abbrev m' : MachineState
  m' = step p l.machine t

  abbrev b : Ledger
  b = allocated_in p l t

  abbrev k : Ledger
  k = stepped_to (allocated_in p l t) t (step p l.machine t)

  abbrev heap : (h : Heap) × (slice_get l.heaps t ≡ Some h)
  heap = booked.heap p s l t S I B can fine

  leaves : StepLeaves t l (allocated_in p l t) (stepped_to (allocated_in p l t) t (step p l.machine t))
  leaves = L p l t S I can

  abbrev next : Name
  next = next_name t l.machine.store

  placed_units : (w : ℕ) → asked p m t ≡ Some w → (v : Bool) → is_small_size w ≡ v → cond v (nat_lt heap.0.room w) (not (heap.0.reserved == units w)) ≡ false
      → units_in m' (cond v (record heap.0 { chunks = put_last heap.0.chunks next; room = heap.0.room - w; since = heap.0.since + w }) (record heap.0 { large = heap.0.large ++ next ∷ []; reserved = 0; since = heap.0.since + w })) ≡ units_in m' heap.0
  placed_units w e true is lacks =
      let a = (booked.at_least p s l t S I B can fine w e).0 in
      let r : w ≤ heap.0.room = ltb-false heap.0.room w lacks in
      let c = (B.each t heap.0 heap.1).room (omega arith) in
      let d = put_length heap.0.chunks next c in
      omega arith
  placed_units w e false is lacks =
      let r : heap.0.reserved ≡ units w = eqb-true heap.0.reserved (units w) (not-false (heap.0.reserved == units w) lacks) in
      let c = sum_by-append (λ n. units (words_at m' n)) heap.0.large (next ∷ []) in
      let d : sum_by (λ n. units (words_at m' n)) (next ∷ []) ≡ units (words_at m' next) = sum_by-cons (λ n. units (words_at m' n)) next [] ∙ omega arith in
      let f : units (words_at m' next) ≡ units w = ap units (large_exact p packs m t can I.counted.1.rows w e is) in
      omega arith

  use_by : (o : Option ℕ) → asked p m t ≡ o → total (units_in m') (allocated_by l t o).heaps ≡ total (units_in m) l.heaps
  use_by None e = total_same (units_in m') (units_in m) l.heaps (booked.units_same p s l t S I B can fine)
  use_by (Some w) e =
      let a = total_same (units_in m') (units_in m) l.heaps (booked.units_same p s l t S I B can fine) in
      let c = total_set (units_in m') l.heaps t heap.0 (with_allocation heap.0 next w) heap.1 in
      let d : units_in m' (with_allocation heap.0 next w) ≡ units_in m' heap.0 = placed_units w e (is_small_size w) refl (booked.lacks_at p s l t S I B can fine w e) in
      let f : total (units_in m') (allocated_by l t (Some w)).heaps ≡ total (units_in m') (slice_set l.heaps t (with_allocation heap.0 next w)) = ap (λ (q : Ledger). total (units_in m') q.heaps) (ap (with_heap_at l t (λ g. with_allocation g next w)) heap.1) in
      omega arith

  pub step_use : in_use k ≡ in_use l
  step_use =
      ap (λ (q : MachineState). total (units_in q) k.heaps) (stepped_machine b t m')
      ∙ (moves_total (units_in m') (units_additive m') t m.tasks b.heaps k.heaps leaves.2 ∙ use_by (asked p m t) refl)

-- STEPS

module _ (p : ProgramText) (s : SettingsValue) (packs : PacksAreSmall p) where
  task_step_use : (l : Ledger) (t : ℕ) → SoundAt t l → StockedLedger l → BookedLedger p s l → (is_due s p l t || is_in_need p l t) ≡ false → in_use (task_step p l t) ≡ in_use l
  task_step_use l t S I B fine = task_step_use_by_cases (can_step l.machine t) refl
    where
      task_step_use_by_cases : (v : Bool) → can_step l.machine t ≡ v → in_use (cond v (stepped_to (allocated_in p l t) t (step p l.machine t)) (record l { steps = l.steps + 1 })) ≡ in_use l
      task_step_use_by_cases false e = refl
      task_step_use_by_cases true e = step_use p s packs l t S I B e fine

  pub steps_use : (k : ℕ) (l : Ledger) (t : ℕ) → SoundAt t l → StockedLedger l → BookedLedger p s l → k ≤ standing s p l t k → in_use (task_steps p l t k) ≡ in_use l
  steps_use zero l t S I B h = refl
  steps_use (suc k) l t S I B h =
      elim (stands_by p s t l k (is_due s p l t || is_in_need p l t) (is_private p l.machine t) (standing s p (task_step p l t) t k) h) [
        | inl f ↦ steps_use k (task_step p l t) t (task_step_sound p l t S) (task_step_stocked p l t S I) (task_step_booked p s l t S I B f.0) f.1.1 ∙ task_step_use l t S I B f.0
        | inr f ↦ ap (λ j. in_use (task_steps p (task_step p l t) t j)) f.1 ∙ task_step_use l t S I B f.0
      ]

-- OTHER ENTRIES

-- one heap's account changes, and the total by as many units
changed : (l : Ledger) (t : ℕ) (f : Heap → Heap) (h : Heap) (more less : ℕ) → slice_get l.heaps t ≡ Some h → units_in l.machine (f h) + less ≡ units_in l.machine h + more → in_use (with_heap l t f) + less ≡ in_use l + more
changed l t f h more less e d =
    let a = total_set (units_in l.machine) l.heaps t h (f h) e in
    let c : in_use (with_heap l t f) ≡ total (units_in l.machine) (slice_set l.heaps t (f h)) = ap in_use (ap (with_heap_at l t f) e) in
    let g : in_use l ≡ total (units_in l.machine) l.heaps = refl in
    omega arith

-- one heap's account changes without changing its units
pub same_use : (l : Ledger) (t : ℕ) (f : Heap → Heap) → ((h : Heap) → units_in l.machine (f h) ≡ units_in l.machine h) → in_use (with_heap l t f) ≡ in_use l
same_use l t f same = same_use_by_cases (heap_at l t) refl
  where
    same_use_by_cases : (o : Option Heap) → heap_at l t ≡ o → in_use (with_heap_at l t f o) ≡ in_use l
    same_use_by_cases None e = refl
    same_use_by_cases (Some h) e = let a = total_set (units_in l.machine) l.heaps t h (f h) e in let c = same h in let g : in_use l ≡ total (units_in l.machine) l.heaps = refl in omega arith

module _ (p : ProgramText) (s : SettingsValue) (l : Ledger) (t : ℕ) (S : SoundLedger l) (B : BookedLedger p s l) where
  -- a chunk is given, or the run ends
  chunk_by : (h : Heap) → slice_get l.heaps t ≡ Some h → (o : Option ℕ) → asked p l.machine t ≡ o → on_asked o (lacks_room h) ≡ true → units_in l.machine (with_chunk o h) ≡ units_in l.machine h + chunk_units o
  chunk_by h e None is needs = absurd (false≢true needs)
  chunk_by h e (Some w) is needs = chunk_by_cases (is_small_size w) refl needs
    where
      chunk_by_cases : (v : Bool) → is_small_size w ≡ v → cond v (nat_lt h.room w) (not (h.reserved == units w)) ≡ true
          → units_in l.machine (cond v (record h { chunks = h.chunks ++ [] ∷ []; room = chunk_words }) (record h { reserved = cond v 1 (units w) })) ≡ units_in l.machine h + cond v 1 (units w)
      chunk_by_cases true small lacks = omega (arith, length-append h.chunks ([] ∷ []))
      chunk_by_cases false small lacks = let z : h.reserved ≡ 0 = none (cases_lt 0 h.reserved) in omega arith
        where
          none : (0 < h.reserved) ⊎ (h.reserved ≤ 0) → h.reserved ≡ 0
          none (inl pos) =
              let q = (B.each t h e).reserved pos in
              let same : q.0 ≡ w = same_Some q.0 w (sym q.1 ∙ is) in
              let r : h.reserved ≡ units w = q.3 ∙ ap units same in
              absurd (both_ways (h.reserved == units w) (not-true (h.reserved == units w) lacks) (eq-eqb h.reserved (units w) r))
          none (inr le) = omega arith

  pub chunk_use : (h : Heap) → slice_get l.heaps t ≡ Some h → is_in_need p l t ≡ true → UseGoes p s l (after_kind p s l 0 (Chunk t)) (Chunk t)
  chunk_use h e needs = chunk_use_by_cases (nat_lt s.chunks (in_use l + chunk_units (asked p l.machine t)))
    where
      chunk_use_by_cases : (v : Bool) → ChunkGoes v l (cond v (record l { end = Some (Pool (in_use l)) }) (with_heap l t (with_chunk (asked p l.machine t)))) (chunk_units (asked p l.machine t))
      chunk_use_by_cases true = refl
      chunk_use_by_cases false = (
        ap (λ (z : Ledger). z.end) (ap (with_heap_at l t (with_chunk (asked p l.machine t))) e),
        let a = changed l t (with_chunk (asked p l.machine t)) h (chunk_units (asked p l.machine t)) 0 e
            (let c = chunk_by h e (asked p l.machine t) refl (subst (λ (g : Heap). on_asked (asked p l.machine t) (lacks_room g) ≡ true) (ap or_fresh e) needs) in omega arith) in
            omega arith,
      )

  -- a leaf collection begins
  pub begin_use : (h : Heap) → slice_get l.heaps t ≡ Some h → collecting (slice_get l.heaps t) ≡ false → UseGoes p s l (after_kind p s l 0 (Begin t)) (Begin t)
  begin_use h e idle =
      let z = begun_none h (ap collecting (sym e) ∙ idle) in
      let same : take_of l.machine (heap_of l t) ≡ take_of l.machine h = ap (λ o. take_of l.machine (or_fresh o)) e in
      let h' : Heap = record h { begun = Some (take_of l.machine h); survivors = within l t } in
      let u : units_in l.machine h' ≡ length h.chunks + units_sum l.machine h.large + h.reserved + take_of l.machine h = refl in
      let a = changed l t (λ g. record g { begun = Some (take_of l.machine g); survivors = within l t }) h (take_of l.machine h) 0 e (omega arith) in
      omega arith

  -- and ends
  pub end_use : (h : Heap) (c : ℕ) → slice_get l.heaps t ≡ Some h → h.begun ≡ Some c → in_use (with_heap l t (collected l.machine)) + (end_numbers l.machine h).1 ≡ in_use l
  end_use h c e is =
      let took : c ≡ take_of l.machine h = ((B.each t h e).begun c is).0 in
      let has : begun_in h ≡ c = ap (λ (o : Option ℕ). unwrap_or o 0) is in
      let most : length (collected l.machine h).chunks ≤ take_of l.machine h = collected_bound l.machine h in
      let large : units_sum l.machine (collected l.machine h).large ≤ units_sum l.machine h.large = kept_weight (λ n. units (words_at l.machine n)) _ h.large in
      let none : begun_in (collected l.machine h) ≡ 0 = refl in
      let a = changed l t (collected l.machine) h 0 (end_numbers l.machine h).1 e (omega arith) in
      omega arith

  -- a sweep
  pub sweep_use : (o : Option Heap) → slice_get l.heaps t ≡ o → in_use (with_heap l t swept_heap) + sweep_number l.machine (or_fresh o) ≡ in_use l
  sweep_use None e = let a : in_use (with_heap l t swept_heap) ≡ in_use l = ap (λ o. in_use (with_heap_at l t swept_heap o)) e in omega arith
  sweep_use (Some h) e =
      let long : length (map (in_snapshot h) h.chunks) ≡ length h.chunks = length-map h.chunks (in_snapshot h) in
      let less = nonempty_length (map (in_snapshot h) h.chunks) in
      let large : units_sum l.machine (in_snapshot h h.large) ≤ units_sum l.machine h.large = kept_weight (λ n. units (words_at l.machine n)) _ h.large in
      let a = changed l t swept_heap h 0 (sweep_number l.machine h) e (omega arith) in
      omega arith

-- EACH

counted_is : (said is : ℕ) (rest : Option Refused) → is_none (unless_wrong_number said is rest) ≡ true → (said ≡ is) × (is_none rest ≡ true)
counted_is said is rest h = let a = none_unless (said == is) _ _ h in (eqb-true said is a.0, a.1)

heap_from : (l : Ledger) (t : ℕ) → is_some (heap_of l t).begun ≡ true → (h : Heap) × (c : ℕ) × (slice_get l.heaps t ≡ Some h) × (h.begun ≡ Some c)
heap_from l t e = heap_from_by_cases (heap_at l t) refl e
  where
    begun : (h : Heap) (o : Option ℕ) → h.begun ≡ o → is_some o ≡ true → (c : ℕ) × (h.begun ≡ Some c)
    begun h None is q = absurd (false≢true q)
    begun h (Some c) is q = (c, is)

    heap_from_by_cases : (o : Option Heap) → heap_at l t ≡ o → is_some (or_fresh o).begun ≡ true → (h : Heap) × (c : ℕ) × (slice_get l.heaps t ≡ Some h) × (h.begun ≡ Some c)
    heap_from_by_cases None is q = absurd (false≢true q)
    heap_from_by_cases (Some h) is q = let c = begun h h.begun refl q in (h, c.0, is, c.1)

module _ (p : ProgramText) (s : SettingsValue) (journal : List EntryValue) (packs : PacksAreSmall p) (legal : is_legal p s journal ≡ true) where
  abbrev l : Ledger
  l = ledger_of p s journal

  S : SoundLedger l
  S = legal_sound p s journal legal

  B : BookedLedger p s l
  B = legal_booked p s journal legal

  by_kind : (w : ℕ) (kind : Kind) → is_none (refusal p s l (record { worker = w; kind = kind })) ≡ true → UseGoes p s l (after_kind p s l w kind) kind
  by_kind w (Took t) h = same_use l t _ (λ g. refl)
  by_kind w (Ran t k) h =
      let r = (entry_tells p s l (record { worker = w; kind = Ran t k }) h).2 in
      steps_use p s packs k l t (S, (out_tells l w t _ r).1) (legal_stocked p s journal legal) B (ran_tells p s l w t k h).1
  by_kind w (Chunk t) h =
      let r = (entry_tells p s l (record { worker = w; kind = Chunk t }) h).2 in
      let o = out_tells l w t _ r in
      let d = none_where (is_due s p l t) _ _ o.2 in
      let n = none_unless (is_in_need p l t) _ _ d.1 in
      let g = heap_of_task l t S o.0 in
      chunk_use p s l t S B g.0 g.1 n.0
  by_kind w (Begin t) h =
      let o = out_tells l w t _ (entry_tells p s l (record { worker = w; kind = Begin t }) h).2 in
      let g = heap_of_task l t S o.0 in
      begin_use p s l t S B g.0 g.1 o.1
  by_kind w (EndOf t a g n) h =
      let r = (entry_tells p s l (record { worker = w; kind = EndOf t a g n }) h).2 in
      let o = none_unless (is_out l w t) _ _ r in
      let c = none_unless (is_some (heap_of l t).begun) _ _ o.1 in
      let k = heap_from l t c.0 in
      let said : g ≡ (end_numbers l.machine (heap_of l t)).1 = (counted_is g _ _ (counted_is a _ _ c.1).1).0 in
      let same : g ≡ (end_numbers l.machine k.0).1 = said ∙ ap (λ q. (end_numbers l.machine (or_fresh q)).1) k.2 in
      ap (λ j. in_use (with_heap l t (collected l.machine)) + j) same ∙ end_use p s l t S B k.0 k.1 k.2 k.3
  by_kind w (PutOff t) h = same_use l t _ (λ g. refl)
  by_kind w (Mark t) h = same_use l t _ (λ g. refl)
  by_kind w (More t n) h = same_use l t _ (λ g. refl)
  by_kind w (Sweep t g) h =
      let r = (entry_tells p s l (record { worker = w; kind = Sweep t g }) h).2 in
      let c = none_unless (is_some (heap_of l t).marked) _ _ (wait_tells l t _ r).2 in
      let d = none_unless (left_in (heap_of l t) == 0) _ _ c.1 in
      let same : g ≡ sweep_number l.machine (heap_of l t) = (counted_is g _ _ d.1).0 in
      ap (λ j. in_use (with_heap l t swept_heap) + j) same ∙ sweep_use p s l t S B (heap_at l t) refl
  by_kind w Fuel h = refl

  use_by_entry : (e : EntryValue) → refusal p s l e ≡ None → UseGoes p s l (after p s l e) e.kind
  use_by_entry e accepted = by_kind e.worker e.kind (ap is_none accepted)

pub entries_use : EntriesUse
entries_use p s journal e I legal accepted = use_by_entry p s journal (packs_are_few p I) legal e accepted

-- WHAT CHUNKS ARE USED FOR

module _ (p : ProgramText) (s : SettingsValue) (l : Ledger) (B : BookedLedger p s l) (t : ℕ) where
  room_by : (o : Option Heap) → heap_at l t ≡ o → 0 < (or_fresh o).room → 0 < length (or_fresh o).chunks
  room_by None e pos = absurd (omega arith)
  room_by (Some h) e pos = (B.each t h e).room pos

  reserved_by : (o : Option Heap) → heap_at l t ≡ o → 0 < (or_fresh o).reserved → (w : ℕ) × (asked p l.machine t ≡ Some w) × (is_small_size w ≡ false) × ((or_fresh o).reserved ≡ units w) × ((or_fresh o).since < s.leaf)
  reserved_by None e pos = absurd (omega arith)
  reserved_by (Some h) e pos = (B.each t h e).reserved pos

  begun_by : (o : Option Heap) → heap_at l t ≡ o → (c : ℕ) → (or_fresh o).begun ≡ Some c → (c ≡ take_of l.machine (or_fresh o)) × ((or_fresh o).reserved ≡ 0)
  begun_by None e c is = absurd cc
  begun_by (Some h) e c is = (B.each t h e).begun c is

pub chunks_are_used : ChunksAreUsed
chunks_are_used p s journal legal =
    let l : Ledger = ledger_of p s journal in
    let B = legal_booked p s journal legal in
    record {
      room = λ t. room_by p s l B t (heap_at l t) refl;
      reserved = λ t pos. (let r = reserved_by p s l B t (heap_at l t) refl pos in record { runs = asked_runs p l.machine t r.0 r.1; words = r.0; asks = r.1; large = r.2; fits = r.3; early = r.4 });
      begun = λ t c. begun_by p s l B t (heap_at l t) refl c;
    }
