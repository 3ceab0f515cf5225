-- The words that heaps count since their last leaf collections.
use Rattle.journal_laws.proofs.Common.{◌≡◌, ℕ, zero, suc, ◌+◌, ◌*◌, ◌≤◌, Bool, true, false, cond, Option, Some, None, List, [], ◌∷◌, ◌++◌, slice_get, slice_set, nat_lt, refl, ap, sym, subst, ◌∙◌, arith, is_none, sum_by-cons, Kind, Took, Ran, Chunk, Begin, End as EndOf, PutOff, Mark, More, Sweep, Fuel, EntryValue, SettingsValue, field_limit, ProgramText, most_fields, MachineState, step, can_step, asked, next_name, step_limit, Heap, Ledger, Pool, heap_of, or_fresh, with_heap, with_heap_at, with_allocation, is_small_size, chunk_words, in_use, collected, swept_heap, allocated_by, allocated_in, stepped_to, task_step, task_steps, on_asked, kind_refusal, after_kind, with_chunk, chunk_units, opening, after_all, ledger_of, is_legal_from, AsksAtMost, CountsFew, SinceIsBounded, Version, One, Two, stepped_machine, SoundLedger, SoundAt, step_leaves, steps_keep, heap_of_task, can_tells, total, total_set, Additive, moves_total, placed_since, with_heap_any, task_step_steps, journal_keeps, out_tells, opening_sound}
use Rattle.journal_laws.proofs.Asked.{programs_ask_few}

abbrev pub since_in : Heap → ℕ
since_in h = h.since

pub since_additive : Additive since_in
since_additive = record { let_go = λ h. refl; fresh = refl; forked = λ ns h. refl; merged = λ p l r. omega arith }

module _ (p : ProgramText) (limit most : ℕ) (asks : AsksAtMost p limit most) where
  -- the limit of fields stays, and each step counts at most this many words
  abbrev Bounded : Ledger → Type 0
  Bounded l = (l.machine.field_limit ≡ limit) × (total since_in l.heaps ≤ most * l.steps)

  -- a heap's account changes, and counts no more
  lighter : (l : Ledger) (t : ℕ) (f : Heap → Heap) → ((h : Heap) → (f h).since ≤ h.since) → Bounded l → Bounded (with_heap l t f)
  lighter l t f less I = with_heap_any Bounded l t f I (λ h e. (I.0, let a = total_set since_in l.heaps t h (f h) e in let b = less h in let c = I.1 in omega arith))

  module _ (l : Ledger) (t : ℕ) (S : SoundAt t l) (I : Bounded l) (can : can_step l.machine t ≡ true) where
    abbrev b : Ledger
    b = allocated_in p l t

    abbrev k : Ledger
    k = stepped_to (allocated_in p l t) t (step p l.machine t)

    abbrev heap : (h : Heap) × (slice_get l.heaps t ≡ Some h)
    heap = heap_of_task l t S.0 (can_tells l.machine t can).1

    asked_by : (o : Option ℕ) → asked p l.machine t ≡ o → total since_in (allocated_by l t o).heaps ≤ total since_in l.heaps + most
    asked_by None e = omega arith
    asked_by (Some w) e =
        let at = asks l.machine t w I.0 e in
        let a = total_set since_in l.heaps t heap.0 (with_allocation heap.0 (next_name t l.machine.store) w) heap.1 in
        let c = placed_since heap.0 (next_name t l.machine.store) w in
        let d : total since_in (allocated_by l t (Some w)).heaps ≡ total since_in (slice_set l.heaps t (with_allocation heap.0 (next_name t l.machine.store) w)) = ap (λ (q : Ledger). total since_in q.heaps) (ap (with_heap_at l t (λ g. with_allocation g (next_name t l.machine.store) w)) heap.1) in
        omega arith

    step_bounded : (task_step p l t).steps ≡ l.steps + 1 → k.steps ≡ l.steps + 1 → Bounded k
    step_bounded same e = (
      ap (λ (m : MachineState). m.field_limit) (stepped_machine b t (step p l.machine t)) ∙ (step_limit p l.machine t S.0.fork_join ∙ I.0),
      let a = moves_total since_in since_additive t l.machine.tasks b.heaps k.heaps (step_leaves p l t S can).2 in
          let c = asked_by (asked p l.machine t) refl in
          let d = I.1 in
          subst (λ n. total since_in k.heaps ≤ most * n) (sym e) (mul_more most l.steps (total since_in k.heaps) (omega arith)),
    )
      where
        mul_more : (a n x : ℕ) → x ≤ a * n + a → x ≤ a * (n + 1)
        mul_more a n x h = grind arith

  task_step_bounded : (l : Ledger) (t : ℕ) → SoundAt t l → Bounded l → Bounded (task_step p l t)
  task_step_bounded l t S I = task_step_bounded_by_cases (can_step l.machine t) refl (task_step_steps p l t)
    where
      task_step_bounded_by_cases : (v : Bool) → can_step l.machine t ≡ v → (cond v (stepped_to (allocated_in p l t) t (step p l.machine t)) (record l { steps = l.steps + 1 })).steps ≡ l.steps + 1
          → Bounded (cond v (stepped_to (allocated_in p l t) t (step p l.machine t)) (record l { steps = l.steps + 1 }))
      task_step_bounded_by_cases false e n = (I.0, more most l.steps (total since_in l.heaps) I.1)
        where
          more : (a n x : ℕ) → x ≤ a * n → x ≤ a * (n + 1)
          more a n x h = grind arith
      task_step_bounded_by_cases true e n = step_bounded l t S I e (task_step_steps p l t) n

  task_steps_bounded : (k : ℕ) (l : Ledger) (t : ℕ) → SoundAt t l → Bounded l → Bounded (task_steps p l t k)
  task_steps_bounded k l t S I = steps_keep Bounded p t (λ m R J. task_step_bounded m t R J) k l S I

  chunk_bounded : (l : Ledger) (t : ℕ) (next : Option ℕ) (full : Bool) → Bounded l → Bounded (cond full (record l { end = Some (Pool (in_use l)) }) (with_heap l t (with_chunk next)))
  chunk_bounded l t next true I = I
  chunk_bounded l t next false I = lighter l t (with_chunk next) (λ h. chunk_bounded_by_cases h (on_asked next is_small_size)) I
    where
      chunk_bounded_by_cases : (h : Heap) (v : Bool) → (cond v (record h { chunks = h.chunks ++ [] ∷ []; room = chunk_words }) (record h { reserved = chunk_units next })).since ≤ h.since
      chunk_bounded_by_cases h true = omega arith
      chunk_bounded_by_cases h false = omega arith

  kind_bounded : (s : SettingsValue) (l : Ledger) (w : ℕ) (kind : Kind) → SoundLedger l → is_none (kind_refusal p s l w kind) ≡ true → Bounded l → Bounded (after_kind p s l w kind)
  kind_bounded s l w (Took t) S h I = lighter l t _ (λ g. omega arith) I
  kind_bounded s l w (Ran t k) S h I = task_steps_bounded k l t (S, (out_tells l w t _ h).1) I
  kind_bounded s l w (Chunk t) S h I = chunk_bounded l t (asked p l.machine t) (nat_lt s.chunks (in_use l + chunk_units (asked p l.machine t))) I
  kind_bounded s l w (Begin t) S h I = lighter l t _ (λ g. omega arith) I
  kind_bounded s l w (EndOf t a g n) S h I = lighter l t (collected l.machine) (λ g. omega arith) I
  kind_bounded s l w (PutOff t) S h I = lighter l t _ (λ g. omega arith) I
  kind_bounded s l w (Mark t) S h I = lighter l t _ (λ g. omega arith) I
  kind_bounded s l w (More t n) S h I = lighter l t _ (λ g. omega arith) I
  kind_bounded s l w (Sweep t g) S h I = lighter l t swept_heap (λ g. omega arith) I
  kind_bounded s l w Fuel S h I = I

  journal_bounded : (s : SettingsValue) (journal : List EntryValue) (l : Ledger) → SoundLedger l → Bounded l → is_legal_from p s l journal ≡ true → Bounded (after_all p s l journal)
  journal_bounded s = journal_keeps Bounded p s (kind_bounded s)

-- one heap counts no more than all heaps
one_of : (heaps : List Heap) (t : ℕ) → (or_fresh (slice_get heaps t)).since ≤ total since_in heaps
one_of [] t = omega arith
one_of (h ∷ heaps) zero = let a = sum_by-cons since_in h heaps in omega arith
one_of (h ∷ heaps) (suc t) = let a = sum_by-cons since_in h heaps in let b = one_of heaps t in omega arith

pub limit_small : (v : Version) → field_limit v ≤ 1000000
limit_small One = omega arith
limit_small Two = omega arith

counts_few : (s : SettingsValue) (l : Ledger) → total since_in l.heaps ≤ (field_limit s.version + 34) * l.steps → CountsFew s l
counts_few s l le = record {
  by_steps = counts_few_by_cases;
  below = λ t. more (field_limit s.version + 34) (most_fields + 34) l.steps (heap_of l t).since (let z = limit_small s.version in omega arith) (counts_few_by_cases t);
}
  where
    counts_few_by_cases : (t : ℕ) → (heap_of l t).since ≤ (field_limit s.version + 34) * l.steps
    counts_few_by_cases t = let a = one_of l.heaps t in omega (arith, a, le)

    more : (a b n x : ℕ) → a ≤ b → x ≤ a * n → x ≤ b * n
    more a b n x h k = grind arith

pub since_is_few : SinceIsBounded
since_is_few p s journal I legal =
    let l : Ledger = ledger_of p s journal in
    let limit : ℕ = field_limit s.version in
    let asks = programs_ask_few p I limit in
    let Q = journal_bounded p limit (limit + 34) asks s journal (opening p s) (opening_sound p s) (refl, omega arith) legal in
    (counts_few s l Q.1, λ t k S. counts_few s (task_steps p l t k) (task_steps_bounded p limit (limit + 34) asks k l t S Q).1)
