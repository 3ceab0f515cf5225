-- Which worker holds which task, by the task that each worker took last.
use Rattle.run_accounts.proofs.Common.{◌≡◌, ℕ, zero, suc, ◌+◌, ◌-◌, ◌<◌, Bool, true, false, cond, Option, Some, None, List, [], ◌∷◌, ◌++◌, length, slice_get, slice_set, nat_lt, inl, inr, refl, ap, sym, subst, ◌∙◌, arith, ◌⊎◌, is_none, unwrap_or, both_ways, cases_eq, same_Some, none-some, got_same, got_other, got_set, Kind, Took, Ran, Chunk, Begin, PutOff, Mark, More, Sweep, Fuel, SettingsValue, ProgramText, step, can_step, asked, next_name, Heap, Ledger, Pool, heap_of, or_fresh, with_heap, with_allocation, is_small_size, in_use, chunk_words, collected, swept_heap, allocated_by, allocated_in, stepped_to, task_step, task_steps, on_asked, kind_refusal, after_kind, out_from, is_ready, with_chunk, chunk_units, option_is, moves_each, SoundLedger, SoundAt, step_keeps, step_leaves, task_step_sound, with_heap_any, none_unless, out_tells, held_is, is_held, none_holding, placed_worker, AccountsValue, CachesAgree, taken_after}
use Rattle.run_trace.specs.declared.entry.Kind.TheVariants.{End as EndOf}

-- WHO HOLDS A TASK

-- the worker of a task's heap
abbrev pub worker_of : Ledger → ℕ → Option ℕ
worker_of l t = (heap_of l t).worker

-- the first task that a worker holds, or none is
abbrev Found : ℕ → ℕ → List Heap → Type 0
Found w base heaps =
    ((out_from w base heaps ≡ None) × ((u : ℕ) → (or_fresh (slice_get heaps u)).worker ≡ Some w → ⊥))
    ⊎ ((u : ℕ) × (out_from w base heaps ≡ Some (base + u)) × ((or_fresh (slice_get heaps u)).worker ≡ Some w))

found : (w base : ℕ) (heaps : List Heap) → Found w base heaps
found w base [] = inl (refl, λ u e. absurd (none-some _ e))
found w base (h ∷ heaps) = found_by_cases (option_is h.worker w) refl (found w (base + 1) heaps)
  where
    found_by_cases : (v : Bool) → option_is h.worker w ≡ v → Found w (base + 1) heaps
        → ((cond v (Some base) (out_from w (base + 1) heaps) ≡ None) × ((u : ℕ) → (or_fresh (slice_get (h ∷ heaps) u)).worker ≡ Some w → ⊥))
        ⊎ ((u : ℕ) × (cond v (Some base) (out_from w (base + 1) heaps) ≡ Some (base + u)) × ((or_fresh (slice_get (h ∷ heaps) u)).worker ≡ Some w))
    found_by_cases true e rest = inr (zero, ap Some (let q : base ≡ base + 0 = omega arith in q), held_is h.worker w e)
    found_by_cases false e (inl none) = inl (none.0, found_by_more_cases)
      where
        found_by_more_cases : (u : ℕ) → (or_fresh (slice_get (h ∷ heaps) u)).worker ≡ Some w → ⊥
        found_by_more_cases zero q = both_ways (option_is h.worker w) e (is_held h.worker w q)
        found_by_more_cases (suc u) q = none.1 u q
    found_by_cases false e (inr some) = inr (suc some.0, some.1 ∙ ap Some (let q : base + 1 + some.0 ≡ base + suc some.0 = omega arith in q), some.2)

module _ (s : AccountsValue) (A : CachesAgree s) (w : ℕ) where
  last : (t : ℕ) → worker_of s.ledger t ≡ Some w → unwrap_or (slice_get s.taken w) None ≡ Some t
  last t e = ap (λ o. unwrap_or o None) (A.taken t w e)

  -- a worker that took nothing holds nothing
  pub holds_none : unwrap_or (slice_get s.taken w) None ≡ None → out_from w 0 s.ledger.heaps ≡ None
  holds_none none = holds_none_by_cases (found w 0 s.ledger.heaps)
    where
      holds_none_by_cases : Found w 0 s.ledger.heaps → out_from w 0 s.ledger.heaps ≡ None
      holds_none_by_cases (inl f) = f.0
      holds_none_by_cases (inr f) = absurd (none-some _ (sym none ∙ last f.0 f.2))

  -- a worker that holds a task holds the one that it took last
  pub holds_last : (t : ℕ) → unwrap_or (slice_get s.taken w) None ≡ Some t → worker_of s.ledger t ≡ Some w → out_from w 0 s.ledger.heaps ≡ Some t
  holds_last t is e = holds_last_by_cases (found w 0 s.ledger.heaps)
    where
      holds_last_by_cases : Found w 0 s.ledger.heaps → out_from w 0 s.ledger.heaps ≡ Some t
      holds_last_by_cases (inl f) = absurd (f.1 t e)
      holds_last_by_cases (inr f) = f.1 ∙ (ap Some (let q : 0 + f.0 ≡ f.0 = omega arith in q) ∙ (sym (last f.0 f.2) ∙ is))

  -- and nothing after that is released
  pub holds_no_more : (t : ℕ) → unwrap_or (slice_get s.taken w) None ≡ Some t → (worker_of s.ledger t ≡ Some w → ⊥) → out_from w 0 s.ledger.heaps ≡ None
  holds_no_more t is other = holds_no_more_by_cases (found w 0 s.ledger.heaps)
    where
      holds_no_more_by_cases : Found w 0 s.ledger.heaps → out_from w 0 s.ledger.heaps ≡ None
      holds_no_more_by_cases (inl f) = f.0
      holds_no_more_by_cases (inr f) = absurd (other (subst (λ v. worker_of s.ledger v ≡ Some w) (same_Some f.0 t (sym (last f.0 f.2) ∙ is)) f.2))

-- NO STEP MAKES A WORKER HOLD A TASK

-- a worker that holds a task in one ledger held it in the other
abbrev Held : Ledger → Ledger → Type 0
Held l k = (u w : ℕ) → worker_of k u ≡ Some w → worker_of l u ≡ Some w

held_set : (l : Ledger) (t : ℕ) (f : Heap → Heap) → ((h : Heap) → (f h).worker ≡ h.worker) → Held l (with_heap l t f)
held_set l t f same = with_heap_any (Held l) l t f (λ u w e. e) (λ h is u w e. elim (cases_eq u t) [
  | inl q ↦
      let here : slice_get (slice_set l.heaps t (f h)) u ≡ Some (f h) = ap (slice_get (slice_set l.heaps t (f h))) q ∙ got_same l.heaps t h (f h) is in
      let was : slice_get l.heaps u ≡ Some h = ap (slice_get l.heaps) q ∙ is in
      ap (λ o. (or_fresh o).worker) was ∙ (sym (same h) ∙ (sym (ap (λ o. (or_fresh o).worker) here) ∙ e))
  | inr ne ↦ ap (λ o. (or_fresh o).worker) (sym (got_other l.heaps t u (f h) ne)) ∙ e
])

module _ (p : ProgramText) (l : Ledger) (t : ℕ) (S : SoundAt t l) (can : can_step l.machine t ≡ true) where
  abbrev b : Ledger
  b = allocated_in p l t

  abbrev k : Ledger
  k = stepped_to (allocated_in p l t) t (step p l.machine t)

  held_b : (o : Option ℕ) → Held l (allocated_by l t o)
  held_b None u w e = e
  held_b (Some v) u w e = held_set l t (λ h. with_allocation h (next_name t l.machine.store) v) (λ h. placed_worker h (next_name t l.machine.store) v) u w e

  abbrev Was : ℕ → Heap → Type 0
  Was u h = (w : ℕ) → h.worker ≡ Some w → worker_of b u ≡ Some w

  was_k : (u : ℕ) (h : Heap) → slice_get k.heaps u ≡ Some h → Was u h
  was_k =
      moves_each Was t l.machine.tasks b.heaps k.heaps (step_leaves p l t S can).2 (λ u h e w q. ap (λ o. (or_fresh o).worker) e ∙ q) (λ h q w e. absurd (none-some _ e)) (λ u w e. absurd (none-some _ e)) (λ ns h q w e. absurd (none-some _ e))
      (λ u h x y v z is wait none q qx qy w e. ap (λ o. (or_fresh o).worker) is ∙ e) (λ u h none q w e. absurd (none-some _ e))

  held_k : Held l k
  held_k u w e = held_b (asked p l.machine t) u w (held_k_by_cases (slice_get k.heaps u) refl e)
    where
      held_k_by_cases : (o : Option Heap) → slice_get k.heaps u ≡ o → (or_fresh o).worker ≡ Some w → worker_of b u ≡ Some w
      held_k_by_cases None q r = absurd (none-some _ r)
      held_k_by_cases (Some h) q r = was_k u h q w r

held_step : (p : ProgramText) (l : Ledger) (t : ℕ) → SoundAt t l → Held l (task_step p l t)
held_step p l t S = step_keeps (Held l) p l t (held_k p l t S) (λ u w q. q)

held_steps : (p : ProgramText) (n : ℕ) (l : Ledger) (t : ℕ) → SoundAt t l → Held l (task_steps p l t n)
held_steps p zero l t S u w e = e
held_steps p (suc n) l t S u w e = held_step p l t S u w (held_steps p n (task_step p l t) t (task_step_sound p l t S) u w e)

-- ENTRIES

held_chunk : (l : Ledger) (t : ℕ) (next : Option ℕ) (full : Bool) → Held l (cond full (record l { end = Some (Pool (in_use l)) }) (with_heap l t (with_chunk next)))
held_chunk l t next true u w e = e
held_chunk l t next false u w e = held_set l t (with_chunk next) (λ h. held_chunk_by_cases h (on_asked next is_small_size)) u w e
  where
    held_chunk_by_cases : (h : Heap) (v : Bool) → (cond v (record h { chunks = h.chunks ++ [] ∷ []; room = chunk_words }) (record h { reserved = chunk_units next })).worker ≡ h.worker
    held_chunk_by_cases h true = refl
    held_chunk_by_cases h false = refl

-- the record of which worker took what, after an entry
module _ (p : ProgramText) (s : SettingsValue) (l : Ledger) (taken : List (Option ℕ)) (A : (t w : ℕ) → worker_of l t ≡ Some w → slice_get taken w ≡ Some (Some t)) (S : SoundLedger l) where
  abbrev Tells : ℕ → Kind → Type 0
  Tells w kind = (u v : ℕ) → worker_of (after_kind p s l w kind) u ≡ Some v → slice_get (taken_after taken w kind) v ≡ Some (Some u)

  took_tells : (w t : ℕ) → w < length taken → out_from w 0 l.heaps ≡ None → Tells w (Took t)
  took_tells w t there free =
      with_heap_any (λ k. (u v : ℕ) → worker_of k u ≡ Some v → slice_get (slice_set taken w (Some t)) v ≡ Some (Some u)) l t (λ h. record h { worker = Some w }) other (λ h is u v e. elim (cases_eq u t) [
        | inl q ↦
            let here : slice_get (slice_set l.heaps t (record h { worker = Some w })) u ≡ Some (record h { worker = Some w }) = ap (slice_get (slice_set l.heaps t (record h { worker = Some w }))) q ∙ got_same l.heaps t h (record h { worker = Some w }) is in
            let at : w ≡ v = same_Some w v (sym (ap (λ o. (or_fresh o).worker) here) ∙ e) in
            ap (slice_get (slice_set taken w (Some t))) (sym at) ∙ (got_set taken w (Some t) there ∙ ap (λ x. Some (Some x)) (sym q))
        | inr ne ↦ other u v (ap (λ o. (or_fresh o).worker) (sym (got_other l.heaps t u (record h { worker = Some w }) ne)) ∙ e)
      ])
    where
      free_of : Found w 0 l.heaps → (u : ℕ) → worker_of l u ≡ Some w → ⊥
      free_of (inl f) u e = f.1 u e
      free_of (inr f) u e = absurd (none-some _ (sym free ∙ f.1))

      other : (u v : ℕ) → worker_of l u ≡ Some v → slice_get (slice_set taken w (Some t)) v ≡ Some (Some u)
      other u v e = elim (cases_eq v w) [
        | inl q ↦ absurd (free_of (found w 0 l.heaps) u (e ∙ ap Some q))
        | inr ne ↦ got_other taken w v (Some t) ne ∙ A u v e
      ]

  kept : (w : ℕ) (kind : Kind) → Held l (after_kind p s l w kind) → (u v : ℕ) → worker_of (after_kind p s l w kind) u ≡ Some v → slice_get taken v ≡ Some (Some u)
  kept w kind held u v e = A u v (held u v e)

  pub kind_tells : (w : ℕ) (kind : Kind) → w < length taken → is_none (kind_refusal p s l w kind) ≡ true → Tells w kind
  kind_tells w (Took t) there h = took_tells w t there (none_holding (out_from w 0 l.heaps) (none_unless (is_ready l t) _ _ h).1)
  kind_tells w (Ran t n) there h = kept w (Ran t n) (held_steps p n l t (S, (out_tells l w t _ h).1))
  kind_tells w (Chunk t) there h = kept w (Chunk t) (held_chunk l t (asked p l.machine t) (nat_lt s.chunks (in_use l + chunk_units (asked p l.machine t))))
  kind_tells w (Begin t) there h = kept w (Begin t) (held_set l t _ (λ g. refl))
  kind_tells w (EndOf t a g n) there h = kept w (EndOf t a g n) (held_set l t (collected l.machine) (λ g. refl))
  kind_tells w (PutOff t) there h = kept w (PutOff t) (held_set l t _ (λ g. refl))
  kind_tells w (Mark t) there h = kept w (Mark t) (held_set l t _ (λ g. refl))
  kind_tells w (More t n) there h = kept w (More t n) (held_set l t _ (λ g. refl))
  kind_tells w (Sweep t g) there h = kept w (Sweep t g) (held_set l t swept_heap (λ g. refl))
  kind_tells w Fuel there h = A
