-- A leaf collection in progress: whose heap it collects, and how many words that has, over one more entry.
use Rattle.run_statistics.proofs.Common.{◌≡◌, ℕ, zero, suc, ◌+◌, ◌&&◌, ◌==◌, not, nat_le, Bool, true, false, cond, Option, Some, None, List, [], ◌∷◌, ◌++◌, slice_get, nat_lt, inl, inr, refl, ap, ap₂, sym, subst, ◌∙◌, is_some, is_none, false≢true, both_ways, cases_eq, and_parts, eqb-false, eqb-true, sum_by-cons, In, contains_from_in, none_some, ProgramText, Kind, Took, Ran, Chunk, Begin, End as EndOf, PutOff, Mark, More, Sweep, Fuel, EntryValue, SettingsValue, Name, MachineState, object_at, asked, can_step, is_running, is_waiting, step, Heap, Ledger, Pool, Refused, chunk_words, collected, end_numbers, heap_of, held_in, in_use, is_small_size, or_fresh, swept_heap, take_of, with_heap, within, words_at, words_in, object_words_of, words_sum, allocated_in, on_asked, stepped_to, task_step, task_steps, after, after_kind, chunk_units, ends_as, is_fuel, is_out, is_ready, kind_refusal, on_waiting, refusal, refused_unless, with_chunk, is_legal, ledger_of, HoldsOnce, TasksAreOut, LeavesTask, SoundAt, SoundLedger, collecting, begins, option_is, legal_then, none_is, entries_leave_others, held_is, left_step, heap_off, heap_view, tasks_are_out_once, collecting_is, entry_tells, legal_sound, none_unless, none_where, out_tells, wait_tells, task_step_sound, task_steps_sound, names_are_held_once, heap_machine, waiters_are_free, idle_then, heap_then, with_at}
use Rattle.heap_reading.specs.below.run_ledger.{Fuel as FuelEnd}

-- STEPS of a task begin no leaf collection of another one
module _ (p : ProgramText) (t u : ℕ) (ne : t ≡ u → ⊥) where
  on_step_by : (l : Ledger) → SoundAt u l → (v : Bool) → is_running (slice_get l.machine.tasks t) ≡ v → collecting (slice_get (task_step p l u).heaps t) ≡ true → collecting (slice_get l.heaps t) ≡ true
  on_step_by l S true e c = ap collecting (sym (left_step p l u t S ne e).1) ∙ c
  on_step_by l S false e c' = on_step_by_cases (can_step l.machine u) refl c'
    where
      idle : (v : Bool) → collecting (slice_get l.heaps t) ≡ v → v ≡ false
      idle true c = absurd (both_ways (is_running (slice_get l.machine.tasks t)) e (S.0.running t c))
      idle false c = refl

      on_step_by_cases : (v : Bool) → can_step l.machine u ≡ v → collecting (slice_get (cond v (stepped_to (allocated_in p l u) u (step p l.machine u)) (record l { steps = l.steps + 1 })).heaps t) ≡ true
          → collecting (slice_get l.heaps t) ≡ true
      on_step_by_cases false can c = c
      on_step_by_cases true can c = absurd (false≢true (sym (idle_then p t u ne l S can (let q = idle (collecting (slice_get l.heaps t)) refl in q)) ∙ c))

  on_steps : (k : ℕ) (l : Ledger) → SoundAt u l → collecting (slice_get (task_steps p l u k).heaps t) ≡ true → collecting (slice_get l.heaps t) ≡ true
  on_steps zero l S c = c
  on_steps (suc k) l S c = on_step_by l S (is_running (slice_get l.machine.tasks t)) refl (on_steps k (task_step p l u) (task_step_sound p l u S) c)

-- THE WORDS of a heap whose names have the objects that they had
words_same : (m m' : MachineState) (ns : List Name) → ((n : Name) → In ns n → object_at m'.store n ≡ object_at m.store n) → words_sum m' ns ≡ words_sum m ns
words_same m m' [] same = refl
words_same m m' (n ∷ ns) same =
    sum_by-cons (words_at m') n ns
    ∙ (ap₂ (λ x y. x + y) (ap object_words_of (same n (inl refl))) (words_same m m' ns (λ k i. same k (inr i))) ∙ sym (sum_by-cons (words_at m) n ns))

-- the collection of t, whose task the worker k holds, was in progress before: the heap had as many words
pub record WentOn (l l' : Ledger) (t k : ℕ) : Type 0 where
  pub worker : (heap_of l t).worker ≡ Some k
  pub begun : is_some (heap_of l t).begun ≡ true
  pub words : words_in l'.machine (heap_of l' t) ≡ words_in l.machine (heap_of l t)

went_same : (l l' : Ledger) (t k : ℕ) → l'.machine ≡ l.machine → heap_of l' t ≡ heap_of l t → (heap_of l' t).worker ≡ Some k → is_some (heap_of l' t).begun ≡ true → WentOn l l' t k
went_same l l' t k m h w c = record {
  worker = ap (λ (z : Heap). z.worker) (sym h) ∙ w;
  begun = ap (λ (z : Heap). is_some z.begun) (sym h) ∙ c;
  words = ap₂ (λ x y. words_in x y) m h;
}

some_none : {A : Type 0} (o : Option ℕ) → o ≡ None → is_some o ≡ true → A
some_none o e s = absurd (false≢true (ap is_some (sym e) ∙ s))

module _ (p : ProgramText) (s : SettingsValue) (journal : List EntryValue) (e : EntryValue) (legal : is_legal p s journal ≡ true) (free : refusal p s (ledger_of p s journal) e ≡ None) where
  abbrev l : Ledger
  l = ledger_of p s journal

  abbrev l' : Ledger
  l' = after p s l e

  abbrev S : SoundLedger l
  S = legal_sound p s journal legal

  H : TasksAreOut l
  H = tasks_are_out_once p s journal legal

  module _ (t k : ℕ) where
    abbrev Went : Ledger → Type 0
    Went z = (heap_of z t).worker ≡ Some k → is_some (heap_of z t).begun ≡ true → WentOn l z t k

    went_off : (u : ℕ) (f : Heap → Heap) → (t ≡ u → ⊥) → Went (with_heap l u f)
    went_off u f ne = went_same l (with_heap l u f) t k (heap_machine l u f) (heap_off l u f t ne)

    -- a change of a heap that is in no collection, before and after
    went_by : (u : ℕ) (f : Heap → Heap) → (t ≡ u → is_some (heap_of (with_heap l u f) u).begun ≡ true → (heap_of (with_heap l u f) u).worker ≡ Some k → ⊥) → Went (with_heap l u f)
    went_by u f never w c = elim (cases_eq t u) [
      | inl q ↦ absurd (never q (ap (λ v. is_some (heap_of (with_heap l u f) v).begun) (sym q) ∙ c) (ap (λ v. (heap_of (with_heap l u f) v).worker) (sym q) ∙ w))
      | inr ne ↦ went_off u f ne w c
    ]

    went_idle : (u : ℕ) (f : Heap → Heap) → ((h : Heap) → (f h).begun ≡ h.begun) → collecting (slice_get l.heaps u) ≡ false → Went (with_heap l u f)
    went_idle u f same idle = went_by u f (λ q c w.
        both_ways (collecting (slice_get l.heaps u)) idle (sym (collecting_is (slice_get l.heaps u)) ∙ (ap is_some (sym (heap_view (λ (h : Heap). h.begun) l u f same u)) ∙ c)))

    went_waiting : (u : ℕ) (f : Heap → Heap) → ((h : Heap) → (f h).worker ≡ h.worker) → (heap_of l u).worker ≡ None → Went (with_heap l u f)
    went_waiting u f same rests = went_by u f (λ q c w. none_some (sym rests ∙ (sym (heap_view (λ (h : Heap). h.worker) l u f same u) ∙ w)))

    -- steps of u
    went_steps : (u n : ℕ) → is_out l e.worker u ≡ true → collecting (slice_get l.heaps u) ≡ false → e.kind ≡ Ran u n → Went (task_steps p l u n)
    went_steps u n out idle is w c = elim (cases_eq t u) [
      | inl q ↦
          absurd (both_ways (collecting (slice_get (task_steps p l u n).heaps u)) (task_steps_sound p n l u (S, idle)).1
          (sym (collecting_is (slice_get (task_steps p l u n).heaps u)) ∙ (ap (λ v. is_some (heap_of (task_steps p l u n) v).begun) (sym q) ∙ c)))
      | inr ne ↦
          let before : collecting (slice_get l.heaps t) ≡ true = on_steps p t u ne n l (S, idle) (sym (collecting_is (slice_get (task_steps p l u n).heaps t)) ∙ c) in
          let begun : is_some (heap_of l t).begun ≡ true = collecting_is (slice_get l.heaps t) ∙ before in
          went_steps_by_cases ne begun (heap_of l t).worker refl (H.collecting t begun)
    ]
      where
        mine : (heap_of l u).worker ≡ Some e.worker
        mine = held_is (heap_of l u).worker e.worker (and_parts (is_running (slice_get l.machine.tasks u)) (option_is (heap_of l u).worker e.worker) out).1

        after_is : after p s l e ≡ task_steps p l u n
        after_is = ap (after_kind p s l e.worker) is

        left : (v : ℕ) → (heap_of l t).worker ≡ Some v → (v ≡ e.worker → ⊥) → is_some (heap_of l t).begun ≡ true → WentOn l (task_steps p l u n) t k
        left v held other begun =
            let L : LeavesTask l (task_steps p l u n) t = subst (λ z. LeavesTask l z t) after_is (entries_leave_others p s journal [] e t v (legal_then p s journal e legal free) held other) in
            let O : HoldsOnce l = names_are_held_once p s journal legal in record {
              worker = ap (λ (z : Heap). z.worker) (sym L.heap) ∙ w;
              begun = begun;
              words = ap (words_in (task_steps p l u n).machine) L.heap
                  ∙ words_same l.machine (task_steps p l u n).machine (held_in (heap_of l t)) (λ m i. L.owner.objects m (O.owned t m (contains_from_in (held_in (heap_of l t)) m i)));
            }

        went_steps_by_cases : (t ≡ u → ⊥) → is_some (heap_of l t).begun ≡ true → (o : Option ℕ) → (heap_of l t).worker ≡ o → is_some o ≡ true → WentOn l (task_steps p l u n) t k
        went_steps_by_cases ne begun None is some = absurd (false≢true some)
        went_steps_by_cases ne begun (Some v) is some = elim (cases_eq v e.worker) [
          | inl q ↦ absurd (ne (H.one t u e.worker (is ∙ ap Some q) mine))
          | inr other ↦ left v is other begun
        ]

    went_chunk : (u : ℕ) (next : Option ℕ) (full : Bool) → collecting (slice_get l.heaps u) ≡ false → Went (cond full (record l { end = Some (Pool (in_use l)) }) (with_heap l u (with_chunk next)))
    went_chunk u next true idle = went_same l (record l { end = Some (Pool (in_use l)) }) t k refl refl
    went_chunk u next false idle = went_idle u (with_chunk next) (λ h. went_chunk_same h (on_asked next is_small_size)) idle
      where
        went_chunk_same : (h : Heap) (v : Bool) → (cond v (record h { chunks = h.chunks ++ [] ∷ []; room = chunk_words }) (record h { reserved = chunk_units next })).begun ≡ h.begun
        went_chunk_same h true = refl
        went_chunk_same h false = refl

    waits_free : (u : ℕ) (rest : Option Refused) → is_none (on_waiting l u rest) ≡ true → (heap_of l u).worker ≡ None
    waits_free u rest h = waiters_are_free p s journal legal u (wait_tells l u rest h).0

    went_kind : (kind : Kind) → e.kind ≡ kind → is_none (kind_refusal p s l e.worker kind) ≡ true → begins t kind ≡ false → Went (after_kind p s l e.worker kind)
    went_kind (Took u) is h off = went_by u _ (λ q c w.
        let ready = and_parts (is_running (slice_get l.machine.tasks u)) (is_none (heap_of l u).worker) (none_unless (is_ready l u) _ _ h).0 in
        some_none (heap_of l u).worker (none_is (heap_of l u).worker ready.1) (H.collecting u (ap is_some (sym (heap_view (λ (g : Heap). g.begun) l u (λ g. record g { worker = Some e.worker }) (λ g. refl) u)) ∙ c)))
    went_kind (Ran u n) is h off = went_steps u n (none_unless (is_out l e.worker u) _ _ h).0 (out_tells l e.worker u _ h).1 is
    went_kind (Chunk u) is h off = went_chunk u (asked p l.machine u) (nat_lt s.chunks (in_use l + chunk_units (asked p l.machine u))) (out_tells l e.worker u _ h).1
    went_kind (Begin u) is h off = went_off u _ (λ q. eqb-false u t off (sym q))
    went_kind (EndOf u a g n) is h off = went_by u (collected l.machine) (λ q c w. ended (slice_get l.heaps u) refl c)
      where
        ended : (o : Option Heap) → slice_get l.heaps u ≡ o → is_some (heap_of (with_heap l u (collected l.machine)) u).begun ≡ true → ⊥
        ended o q c = over o (ap (λ z. is_some (or_fresh z).begun) (sym (with_at l u (collected l.machine) ∙ ap (heap_then (collected l.machine)) q)) ∙ c)
          where
            over : (z : Option Heap) → is_some (or_fresh (heap_then (collected l.machine) z)).begun ≡ true → ⊥
            over None r = false≢true r
            over (Some h') r = false≢true r
    went_kind (PutOff u) is h off = went_idle u _ (λ g. refl) (out_tells l e.worker u _ h).1
    went_kind (Mark u) is h off = went_waiting u _ (λ g. refl) (waits_free u _ h)
    went_kind (More u n) is h off = went_waiting u _ (λ g. refl) (waits_free u _ h)
    went_kind (Sweep u g) is h off = went_waiting u swept_heap (λ z. refl) (waits_free u _ h)
    went_kind Fuel is h off = went_same l (record l { end = Some (FuelEnd l.steps) }) t k refl refl

    -- if the entry doesn't begin it
    pub went_on : begins t e.kind ≡ false → (heap_of l' t).worker ≡ Some k → is_some (heap_of l' t).begun ≡ true → WentOn l l' t k
    went_on off = went_kind e.kind refl (entry_tells p s l e (ap is_none free)).2 off

    -- if it begins the collection of u
    module _ (u : ℕ) (is : e.kind ≡ Begin u) where
      after_is : l' ≡ with_heap l u (λ h. record h { begun = Some (take_of l.machine h); survivors = within l u })
      after_is = ap (after_kind p s l e.worker) is

      mine : (heap_of l u).worker ≡ Some e.worker
      mine =
          let h : is_none (kind_refusal p s l e.worker (Begin u)) ≡ true = ap (λ z. is_none (kind_refusal p s l e.worker z)) (sym is) ∙ (entry_tells p s l e (ap is_none free)).2 in
          held_is (heap_of l u).worker e.worker (and_parts (is_running (slice_get l.machine.tasks u)) (option_is (heap_of l u).worker e.worker) (none_unless (is_out l e.worker u) _ _ h).0).1

      pub begin_worker : (heap_of l' u).worker ≡ Some e.worker
      begin_worker = ap (λ (z : Ledger). (heap_of z u).worker) after_is ∙ (heap_view (λ (h : Heap). h.worker) l u (λ h. record h { begun = Some (take_of l.machine h); survivors = within l u }) (λ h. refl) u ∙ mine)

      pub begin_words : words_in l'.machine (heap_of l' u) ≡ words_in l.machine (heap_of l u)
      begin_words =
          ap (λ (z : Ledger). words_in z.machine (heap_of z u)) after_is
          ∙ ap₂ (λ m ns. words_sum m ns) (heap_machine l u (λ h. record h { begun = Some (take_of l.machine h); survivors = within l u }))
          (heap_view held_in l u (λ h. record h { begun = Some (take_of l.machine h); survivors = within l u }) (λ h. refl) u)

      -- no other one is of its worker
      pub begin_apart : (t ≡ u → ⊥) → (heap_of l t).worker ≡ Some k → k ≡ e.worker → ⊥
      begin_apart ne held q = ne (H.one t u e.worker (held ∙ ap Some q) mine)

    -- the collection of u ends
    module _ (u taken given left : ℕ) (is : e.kind ≡ EndOf u taken given left) where
      tells : is_none (kind_refusal p s l e.worker (EndOf u taken given left)) ≡ true
      tells = ap (λ z. is_none (kind_refusal p s l e.worker z)) (sym is) ∙ (entry_tells p s l e (ap is_none free)).2

      out : (is_out l e.worker u ≡ true) × (is_none (refused_unless (is_some (heap_of l u).begun) Refused.NotCollecting (ends_as (taken, given, left) (end_numbers l.machine (heap_of l u)))) ≡ true)
      out = none_unless (is_out l e.worker u) _ _ tells

      numbers : (is_some (heap_of l u).begun ≡ true) × (is_none (ends_as (taken, given, left) (end_numbers l.machine (heap_of l u))) ≡ true)
      numbers = none_unless (is_some (heap_of l u).begun) _ _ out.1

      pub end_begun : is_some (heap_of l u).begun ≡ true
      end_begun = numbers.0

      pub end_worker : (heap_of l u).worker ≡ Some e.worker
      end_worker = held_is (heap_of l u).worker e.worker (and_parts (is_running (slice_get l.machine.tasks u)) (option_is (heap_of l u).worker e.worker) out.0).1

      pub end_left : left ≡ words_in l.machine (collected l.machine (heap_of l u))
      end_left =
          let a = none_unless (taken == (end_numbers l.machine (heap_of l u)).0) _ _ numbers.1 in
          let b = none_unless (given == (end_numbers l.machine (heap_of l u)).1) _ _ a.1 in
          let c = none_unless (left == (end_numbers l.machine (heap_of l u)).2) _ _ b.1 in
          eqb-true left (end_numbers l.machine (heap_of l u)).2 c.0

  -- the heap of u, which waits, is swept
  pub sweep_waits : (u given : ℕ) → e.kind ≡ Sweep u given → is_waiting (slice_get l.machine.tasks u) ≡ true
  sweep_waits u given is =
      (wait_tells l u _ (ap (λ z. is_none (kind_refusal p s l e.worker z)) (sym is) ∙ (entry_tells p s l e (ap is_none free)).2)).0

-- the worker of an entry is one of the run's
pub entry_worker : (p : ProgramText) (s : SettingsValue) (l : Ledger) (e : EntryValue) → refusal p s l e ≡ None → nat_lt e.worker s.workers ≡ true
entry_worker p s l e free =
    let a = none_where (is_some l.end) _ _ (ap is_none free) in
    let b = none_where (nat_le s.fuel l.steps && not (is_fuel e.kind)) _ _ a.1 in
    (none_unless (nat_lt e.worker s.workers) _ _ b.1).0
