-- A name is held if and only if it was allocated and not dropped.
use Rattle.journal_laws.proofs.Common.{◌≡◌, ℕ, zero, suc, ◌+◌, ◌≤◌, Bool, true, false, cond, Option, Some, None, List, [], ◌∷◌, slice_get, slice_set, nat_lt, Contains, ◌⊎◌, inl, inr, refl, sym, subst, ◌∙◌, arith, is_some, is_none, false≢true, both_ways, cases_eq, and_parts, In, in_from_contains, contains_from_in, got_same, got_other, Kind, Took, Ran, Chunk, Begin, End as EndOf, PutOff, Mark, More, Sweep, Fuel, EntryValue, SettingsValue, field_limit, ProgramText, Name, Object, MachineState, object_at, step, start, can_step, asked, owner_of, IsStored, next_name, Heap, Ledger, Pool, is_name, holds_name, held_in, held, heap_at, heap_of, or_fresh, with_heap, with_heap_at, is_small_size, in_use, collected, swept_heap, allocated_by, allocated_in, stepped_to, task_step, task_steps, on_asked, refusal, kind_refusal, after_kind, after, chunk_units, with_chunk, opening, after_all, ledger_of, is_legal_from, Drops, IsDropped, HeldIsUndropped, same_from_is_name, in_from_holds, holds_from_in, stepped_machine, collected_down, collected_up, swept_down, swept_up, SomeHeapHas, InHeaps, heap_names, SoundLedger, held_keeps, in_held, SoundAt, heap_of_task, can_tells, task_step_sound, Grown, next_unstored, weight, total_set, copies, copies_keeps, keeps_copies, hit, hit_itself, StockedLedger, with_heap_any, allocated_total, G, same_copies, task_step_stocked, kind_stocked, legal_stocked, opening_stocked, out_tells, entry_tells, entry_sound, opening_sound}
use Rattle.journal_laws.proofs.Words.{chunk_even}

-- from one state and its heaps to the next: of what was held, all but the dropped is still held; all that is new is
-- held; and nothing else is
pub record Flows (D : Name → Type 0) (l l' : Ledger) : Type 0 where
  pub keeps : (n : Name) → SomeHeapHas l.heaps n → (D n → ⊥) → SomeHeapHas l'.heaps n
  pub only : (n : Name) → SomeHeapHas l'.heaps n → (SomeHeapHas l.heaps n ⊎ (IsStored l.machine n → ⊥)) × (D n → ⊥)
  pub new : (n : Name) → IsStored l'.machine n → IsStored l.machine n ⊎ SomeHeapHas l'.heaps n
  pub up : (n : Name) → IsStored l.machine n → IsStored l'.machine n

abbrev pub Nothing : Name → Type 0
Nothing n = ⊥

pub rests : (l : Ledger) → Flows Nothing l l
rests l = record { keeps = λ n k d. k; only = λ n k. (inl k, λ d. d); new = λ n s. inl s; up = λ n s. s }

flows_on : (l l' l'' : Ledger) → Flows Nothing l l' → Flows Nothing l' l'' → Flows Nothing l l''
flows_on l l' l'' F G = record {
  keeps = λ n k d. G.keeps n (F.keeps n k d) d;
  only = λ n k. (elim (G.only n k).0 [ inl k' ↦ (F.only n k').0 | inr un ↦ inr (λ s. un (F.up n s)) ], λ d. d);
  new = λ n s. elim (G.new n s) [ inl s' ↦ elim (F.new n s') [ inl s'' ↦ inl s'' | inr k ↦ inr (G.keeps n k (λ d. d)) ] | inr k ↦ inr k ];
  up = λ n s. G.up n (F.up n s);
}

-- STEPS

module _ (p : ProgramText) (l : Ledger) (t : ℕ) (S : SoundAt t l) (I : StockedLedger l) (can : can_step l.machine t ≡ true) where
  abbrev k : Ledger
  k = stepped_to (allocated_in p l t) t (step p l.machine t)

  abbrev heap : (h : Heap) × (slice_get l.heaps t ≡ Some h)
  heap = heap_of_task l t S.0 (can_tells l.machine t can).1

  abbrev machine_is : k.machine ≡ step p l.machine t
  machine_is = stepped_machine (allocated_in p l t) t (step p l.machine t)

  abbrev grown : Grown p l.machine t
  grown = G p l t S I can

  up_to : (o : Option ℕ) (n : Name) → copies n l.heaps ≤ copies n (allocated_by l t o).heaps
  up_to None n = omega arith
  up_to (Some w) n = let a = allocated_total (hit n) l t heap.0 heap.1 w in omega arith

  new_here : (o : Option ℕ) → is_some o ≡ true → 1 ≤ copies (next_name t l.machine.store) (allocated_by l t o).heaps
  new_here None e = absurd (false≢true e)
  new_here (Some w) e =
      let a = allocated_total (hit (next_name t l.machine.store)) l t heap.0 heap.1 w in
      let b = hit_itself (next_name t l.machine.store) in
      omega arith

  old_or_new : (o : Option ℕ) (n : Name) → 1 ≤ copies n (allocated_by l t o).heaps → SomeHeapHas l.heaps n ⊎ (next_name t l.machine.store ≡ n)
  old_or_new None n h = inl (copies_keeps n l.heaps h)
  old_or_new (Some w) n h = old_or_new_by_cases (is_name (next_name t l.machine.store) n) refl (subst (λ c. 1 ≤ c) (allocated_total (hit n) l t heap.0 heap.1 w) h)
    where
      old_or_new_by_cases : (b : Bool) → is_name (next_name t l.machine.store) n ≡ b → 1 ≤ copies n l.heaps + cond b 1 0 → SomeHeapHas l.heaps n ⊎ (next_name t l.machine.store ≡ n)
      old_or_new_by_cases true e le = inr (same_from_is_name (next_name t l.machine.store) n e)
      old_or_new_by_cases false e le = inl (copies_keeps n l.heaps (omega arith))

  to_k : (n : Name) → 1 ≤ copies n (allocated_in p l t).heaps → SomeHeapHas k.heaps n
  to_k n le = copies_keeps n k.heaps (subst (λ c. 1 ≤ c) (sym (same_copies p l t S I can n)) le)

  from_k : (n : Name) → SomeHeapHas k.heaps n → 1 ≤ copies n (allocated_in p l t).heaps
  from_k n q = subst (λ c. 1 ≤ c) (same_copies p l t S I can n) (keeps_copies n k.heaps q)

  step_flows : Flows Nothing l k
  step_flows = record {
    keeps = λ n q d. to_k n (let a = keeps_copies n l.heaps q in let b = up_to (asked p l.machine t) n in omega arith);
    only = λ n q. (
      elim (old_or_new (asked p l.machine t) n (from_k n q)) [ inl old ↦ inl old | inr e ↦ inr (λ s. next_unstored l.machine t (subst (IsStored l.machine) (sym e) s)) ],
      λ d. d,
    );
    new = λ n s. elim (grown.down n (subst (λ (m : MachineState). IsStored m n) machine_is s)) [
      | inl old ↦ inl old
      | inr e ↦ inr (subst (SomeHeapHas k.heaps) (sym e.0) (to_k (next_name t l.machine.store) (new_here (asked p l.machine t) e.1)))
    ];
    up = λ n s. subst (λ (m : MachineState). IsStored m n) (sym machine_is) (grown.up n s);
  }

task_step_flows : (p : ProgramText) (l : Ledger) (t : ℕ) → SoundAt t l → StockedLedger l → Flows Nothing l (task_step p l t)
task_step_flows p l t S I = task_step_flows_by_cases (can_step l.machine t) refl
  where
    task_step_flows_by_cases : (v : Bool) → can_step l.machine t ≡ v → Flows Nothing l (cond v (stepped_to (allocated_in p l t) t (step p l.machine t)) (record l { steps = l.steps + 1 }))
    task_step_flows_by_cases false e = record { keeps = λ n k d. k; only = λ n k. (inl k, λ d. d); new = λ n s. inl s; up = λ n s. s }
    task_step_flows_by_cases true e = step_flows p l t S I e

task_steps_flow : (p : ProgramText) (k : ℕ) (l : Ledger) (t : ℕ) → SoundAt t l → StockedLedger l → Flows Nothing l (task_steps p l t k)
task_steps_flow p zero l t S I = rests l
task_steps_flow p (suc k) l t S I =
    flows_on l (task_step p l t) (task_steps p (task_step p l t) t k) (task_step_flows p l t S I)
    (task_steps_flow p k (task_step p l t) t (task_step_sound p l t S) (task_step_stocked p l t S I))

-- OTHER ENTRIES

-- a heap's account changes, but not its names
even : (l : Ledger) (t : ℕ) (f : Heap → Heap) → ((h : Heap) (g : Name → ℕ) → weight g (f h) ≡ weight g h) → Flows Nothing l (with_heap l t f)
even l t f same = with_heap_any (Flows Nothing l) l t f (rests l) (λ h e.
    let eq : (n : Name) → copies n (slice_set l.heaps t (f h)) ≡ copies n l.heaps = λ n. (let a = total_set (weight (hit n)) l.heaps t h (f h) e in let b = same h (hit n) in omega arith) in
    record {
      keeps = λ n k d. copies_keeps n (slice_set l.heaps t (f h)) (subst (λ c. 1 ≤ c) (sym (eq n)) (keeps_copies n l.heaps k));
      only = λ n k. (inl (copies_keeps n l.heaps (subst (λ c. 1 ≤ c) (eq n) (keeps_copies n (slice_set l.heaps t (f h)) k))), λ d. d);
      new = λ n s. inl s;
      up = λ n s. s;
    })

-- a heap drops what isn't among these names
abbrev Lost : Ledger → ℕ → List Name → Name → Type 0
Lost l t ns n = IsStored l.machine n × (owner_of l.machine.tasks n.task ≡ t) × (Contains ns n → ⊥)

cut_flows : (l : Ledger) (t : ℕ) (h h' : Heap) (ns : List Name) → SoundLedger l → StockedLedger l → slice_get l.heaps t ≡ Some h
    → ((n : Name) → In (held_in h') n → In (held_in h) n × In ns n) → ((n : Name) → In (held_in h) n → In ns n → In (held_in h') n)
    → Flows (Lost l t ns) l (record l { heaps = slice_set l.heaps t h' })
cut_flows l t h h' ns S I is dn up = record { keeps = keeps; only = only; new = λ n s. inl s; up = λ n s. s }
  where
    cut_flows_here : (n : Name) → In (held_in h') n → SomeHeapHas (slice_set l.heaps t h') n
    cut_flows_here n i = (t, subst (λ o. In (heap_names o) n) (sym (got_same l.heaps t h h' is)) i)

    keep_by : (n : Name) → SomeHeapHas l.heaps n → In (held_in h) n → (b : Bool) → holds_name ns n ≡ b → (Lost l t ns n → ⊥) → (owner_of l.machine.tasks n.task ≡ t) → SomeHeapHas (slice_set l.heaps t h') n
    keep_by n k i true e un o = cut_flows_here n (up n i (in_from_holds ns n e))
    keep_by n k i false e un o = absurd (un (I.stored n k, o, λ c. both_ways (holds_name ns n) e (holds_from_in ns n (in_from_contains ns n c))))

    keeps : (n : Name) → SomeHeapHas l.heaps n → (Lost l t ns n → ⊥) → SomeHeapHas (slice_set l.heaps t h') n
    keeps n k un = elim (cases_eq k.0 t) [
      | inl e ↦
          let i : InHeaps l.heaps t n = subst (λ u. InHeaps l.heaps u n) e k.1 in
          keep_by n k (subst (λ o. In (heap_names o) n) is i) (holds_name ns n) refl un ((S.owners k.0 n k.1).1 ∙ e)
      | inr ne ↦ (k.0, subst (λ o. In (heap_names o) n) (sym (got_other l.heaps t k.0 h' ne)) k.1)
    ]

    only : (n : Name) → SomeHeapHas (slice_set l.heaps t h') n → (SomeHeapHas l.heaps n ⊎ (IsStored l.machine n → ⊥)) × (Lost l t ns n → ⊥)
    only n k = elim (cases_eq k.0 t) [
      | inl e ↦
          let i : In (held_in h') n = subst (λ o. In (heap_names o) n) (got_same l.heaps t h h' is) (subst (λ u. InHeaps (slice_set l.heaps t h') u n) e k.1) in
          let r = dn n i in
          (inl (t, subst (λ o. In (heap_names o) n) (sym is) r.0), λ d. d.2 (contains_from_in ns n r.1))
      | inr ne ↦
          let i : InHeaps l.heaps k.0 n = subst (λ o. In (heap_names o) n) (got_other l.heaps t k.0 h' ne) k.1 in
          (inl (k.0, i), λ d. ne (sym (S.owners k.0 n i).1 ∙ d.1))
    ]

-- without such a heap nothing is lost
none_lost : (l : Ledger) (t : ℕ) (ns : List Name) → SoundLedger l → slice_get l.heaps t ≡ None → Flows (Lost l t ns) l l
none_lost l t ns S e = record {
  keeps = λ n k un. k;
  only = λ n k. (
    inl k,
    λ d.
        let same : k.0 ≡ t = sym (S.owners k.0 n k.1).1 ∙ d.1 in
        elim (subst (λ o. In (heap_names o) n) e (subst (λ u. InHeaps l.heaps u n) same k.1)) [ ],
  );
  new = λ n s. inl s;
  up = λ n s. s;
}

cut_any : (l : Ledger) (t : ℕ) (f : Heap → Heap) (names : Heap → List Name) → SoundLedger l → StockedLedger l
    → ((h : Heap) (n : Name) → In (held_in (f h)) n → In (held_in h) n × In (names h) n) → ((h : Heap) (n : Name) → In (held_in h) n → In (names h) n → In (held_in (f h)) n)
    → Flows (Lost l t (names (heap_of l t))) l (with_heap l t f)
cut_any l t f names S I dn up = cut_any_by_cases (heap_at l t) refl
  where
    cut_any_by_cases : (o : Option Heap) → heap_at l t ≡ o → Flows (Lost l t (names (or_fresh o))) l (with_heap_at l t f o)
    cut_any_by_cases None e = none_lost l t (names (or_fresh None)) S e
    cut_any_by_cases (Some h) e = cut_flows l t h (f h) (names h) S I e (dn h) (up h)

chunk_flows : (l : Ledger) (t : ℕ) (next : Option ℕ) (full : Bool) (end : Ledger) → Flows Nothing l end → Flows Nothing l (cond full end (with_heap l t (with_chunk next)))
chunk_flows l t next true end E = E
chunk_flows l t next false end E = even l t (with_chunk next) (λ h g. chunk_even next h g (on_asked next is_small_size))

kind_flows : (p : ProgramText) (s : SettingsValue) (l : Ledger) (w : ℕ) (kind : Kind) → SoundLedger l → StockedLedger l → is_none (kind_refusal p s l w kind) ≡ true → Flows (Drops l kind) l (after_kind p s l w kind)
kind_flows p s l w (Took t) S I h = even l t _ (λ h g. refl)
kind_flows p s l w (Ran t k) S I h = task_steps_flow p k l t (S, (out_tells l w t _ h).1) I
kind_flows p s l w (Chunk t) S I h =
    chunk_flows l t (asked p l.machine t) (nat_lt s.chunks (in_use l + chunk_units (asked p l.machine t))) (record l { end = Some (Pool (in_use l)) })
    (record { keeps = λ n k d. k; only = λ n k. (inl k, λ d. d); new = λ n s. inl s; up = λ n s. s })
kind_flows p s l w (Begin t) S I h = even l t _ (λ h g. refl)
kind_flows p s l w (EndOf t a g n) S I h = cut_any l t (collected l.machine) (λ h. h.survivors) S I (λ h n i. collected_down l.machine h n i) (λ h n i j. collected_up l.machine h n i j)
kind_flows p s l w (PutOff t) S I h = even l t _ (λ h g. refl)
kind_flows p s l w (Mark t) S I h = even l t _ (λ h g. refl)
kind_flows p s l w (More t n) S I h = even l t _ (λ h g. refl)
kind_flows p s l w (Sweep t g) S I h = cut_any l t swept_heap (λ h. h.snapshot) S I (λ h n i. swept_down h n i) (λ h n i j. swept_up h n i j)
kind_flows p s l w Fuel S I h = record { keeps = λ n k d. k; only = λ n k. (inl k, λ d. d); new = λ n s. inl s; up = λ n s. s }

drop_stored : (l : Ledger) (kind : Kind) (n : Name) → Drops l kind n → IsStored l.machine n
drop_stored l (EndOf t a g k) n d = d.0
drop_stored l (Sweep t g) n d = d.0
drop_stored l (Took t) n d = absurd d
drop_stored l (Ran t k) n d = absurd d
drop_stored l (Chunk t) n d = absurd d
drop_stored l (Begin t) n d = absurd d
drop_stored l (PutOff t) n d = absurd d
drop_stored l (Mark t) n d = absurd d
drop_stored l (More t k) n d = absurd d
drop_stored l Fuel n d = absurd d

-- WHOLE JOURNALS

module _ (p : ProgramText) (s : SettingsValue) where
  -- what is held at the end wasn't dropped
  held_undropped : (es : List EntryValue) (l : Ledger) → SoundLedger l → StockedLedger l → is_legal_from p s l es ≡ true → (n : Name) → SomeHeapHas (after_all p s l es).heaps n
      → (SomeHeapHas l.heaps n ⊎ (IsStored l.machine n → ⊥)) × (IsDropped p s l es n → ⊥)
  held_undropped [] l S I h n k = (inl k, λ d. d)
  held_undropped (e ∷ es) l S I h n k =
      let both = and_parts (is_none (refusal p s l e)) (is_legal_from p s (after p s l e) es) h in
      let kind = (entry_tells p s l e both.0).2 in
      let F = kind_flows p s l e.worker e.kind S I kind in
      let more = held_undropped es (after p s l e) (entry_sound p s l e S both.0) (kind_stocked p s l e.worker e.kind S kind I) both.1 n k in
      elim more.0 [
        | inl k' ↦ let o = F.only n k' in (o.0, λ d. elim d [ inl now ↦ o.1 now | inr later ↦ more.1 later ])
        | inr un ↦ (inr (λ st. un (F.up n st)), λ d. elim d [ inl now ↦ un (F.up n (drop_stored l e.kind n now)) | inr later ↦ more.1 later ])
      ]

  stored_or : (m : MachineState) (n : Name) → IsStored m n ⊎ (IsStored m n → ⊥)
  stored_or m n = stored_or_by_cases (object_at m.store n) refl
    where
      stored_or_by_cases : (o : Option Object) → object_at m.store n ≡ o → IsStored m n ⊎ (IsStored m n → ⊥)
      stored_or_by_cases None e = inr (λ st. none_some st.0 (sym e ∙ st.1))
        where
          none_some : (x : Object) → ◌≡◌ {A = Option Object} None (Some x) → ⊥
          none_some x q = absurd cc
      stored_or_by_cases (Some x) e = inl (x, e)

  -- what exists at the end and wasn't dropped is held
  undropped_held : (es : List EntryValue) (l : Ledger) → SoundLedger l → StockedLedger l → is_legal_from p s l es ≡ true → (n : Name) → SomeHeapHas l.heaps n ⊎ (IsStored l.machine n → ⊥)
      → IsStored (after_all p s l es).machine n → (IsDropped p s l es n → ⊥) → SomeHeapHas (after_all p s l es).heaps n
  undropped_held [] l S I h n (inl k) st un = k
  undropped_held [] l S I h n (inr none) st un = absurd (none st)
  undropped_held (e ∷ es) l S I h n was st un =
      let both = and_parts (is_none (refusal p s l e)) (is_legal_from p s (after p s l e) es) h in
      let kind = (entry_tells p s l e both.0).2 in
      let F = kind_flows p s l e.worker e.kind S I kind in
      undropped_held es (after p s l e) (entry_sound p s l e S both.0) (kind_stocked p s l e.worker e.kind S kind I) both.1 n
      (elim was [
        | inl k ↦ inl (F.keeps n k (λ d. un (inl d)))
        | inr none ↦ elim (stored_or (after p s l e).machine n) [
          | inl now ↦ elim (F.new n now) [ inl old ↦ absurd (none old) | inr k ↦ inl k ]
          | inr none' ↦ inr none'
        ]
      ])
      st (λ d. un (inr d))

none_at_first : (p : ProgramText) (limit : ℕ) (n : Name) → IsStored (start p limit) n → ⊥
none_at_first p limit n st = none_at_first_by_cases n.task n.count st.0 st.1
  where
    none_at_first_by_cases : (t c : ℕ) (o : Object) → object_at ([] ∷ []) (record { task = t; count = c }) ≡ Some o → ⊥
    none_at_first_by_cases zero c o e = absurd cc
    none_at_first_by_cases (suc t) c o e = absurd cc

pub held_is_undropped : HeldIsUndropped
held_is_undropped p s journal legal n =
    let l = ledger_of p s journal in
    let S0 = opening_sound p s in
    let I0 = opening_stocked p s in
    let I = legal_stocked p s journal legal in (
      λ c. let k = held_keeps l n (in_from_contains (held l) n c) in (I.stored n k, (held_undropped p s journal (opening p s) S0 I0 legal n k).1),
      λ both. contains_from_in (held l) n (in_held l n (undropped_held p s journal (opening p s) S0 I0 legal n (inr (none_at_first p (field_limit s.version) n)) both.0 both.1)),
    )
