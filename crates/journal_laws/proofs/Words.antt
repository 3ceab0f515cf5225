-- Each word that was allocated is held or was dropped.
use Rattle.journal_laws.proofs.Common.{◌≡◌, ℕ, zero, suc, ◌+◌, ◌-◌, ◌≤◌, Bool, true, false, cond, Option, Some, None, List, [], ◌∷◌, ◌++◌, slice_get, nat_lt, refl, sym, subst, arith, is_none, and_parts, In, Kind, Took, Ran, Chunk, Begin, End as EndOf, PutOff, Mark, More, Sweep, Fuel, EntryValue, SettingsValue, ProgramText, Name, MachineState, step, can_step, asked, Heap, Ledger, Pool, held_in, heap_at, or_fresh, with_heap, with_heap_at, words_at, words_in, in_use, is_small_size, chunk_words, collected, swept_heap, fresh, allocated_by, allocated_in, stepped_to, task_step, task_steps, on_asked, refusal, kind_refusal, after_kind, after, with_chunk, chunk_units, opening, after_all, ledger_of, is_legal_from, tally, lost, freed_by_end, freed_by_sweep, store_words, WordsAreAccounted, stepped_machine, SoundLedger, heap_names, SoundAt, heap_of_task, can_tells, task_step_sound, Grown, weight, total, total_set, sum_flat, collected_weight, swept_weight, chunk_weight, moves_total, weight_additive, sum_same, StockedLedger, G, L, allocated_total, with_heap_any, task_step_stocked, kind_stocked, opening_stocked, total_same, out_tells, entry_tells, entry_sound, opening_sound}

-- the words that all heaps hold
abbrev held_words : Ledger → ℕ
held_words l = total (words_in l.machine) l.heaps

-- what was freed between two ledgers, and what was allocated
abbrev Balances : ℕ → Ledger → Ledger → Type 0
Balances freed l l' = freed + held_words l' + store_words l.machine.store ≡ held_words l + store_words l'.machine.store

balance_on : (a b : ℕ) (l l' l'' : Ledger) → Balances a l l' → Balances b l' l'' → Balances (a + b) l l''
balance_on a b l l' l'' F H =
    let f : a + held_words l' + store_words l.machine.store ≡ held_words l + store_words l'.machine.store = F in
    let h : b + held_words l'' + store_words l'.machine.store ≡ held_words l' + store_words l''.machine.store = H in
    omega arith

-- STEPS

module _ (p : ProgramText) (l : Ledger) (t : ℕ) (S : SoundAt t l) (I : StockedLedger l) (can : can_step l.machine t ≡ true) where
  abbrev m' : MachineState
  m' = step p l.machine t

  abbrev b : Ledger
  b = allocated_in p l t

  abbrev k : Ledger
  k = stepped_to (allocated_in p l t) t (step p l.machine t)

  abbrev heap : (h : Heap) × (slice_get l.heaps t ≡ Some h)
  heap = heap_of_task l t S.0 (can_tells l.machine t can).1

  abbrev grown : Grown p l.machine t
  grown = G p l t S I can

  same_words : total (words_in m') l.heaps ≡ total (words_in l.machine) l.heaps
  same_words = total_same (words_in m') (words_in l.machine) l.heaps (λ u h e.
      sum_same (words_at m') (words_at l.machine) (held_in h) (λ n i. grown.words n (I.stored n (u, subst (λ o. In (heap_names o) n) (sym e) i))))

  balance_by : (o : Option ℕ) → asked p l.machine t ≡ o → total (words_in m') (allocated_by l t o).heaps + store_words l.machine.store ≡ held_words l + store_words m'.store
  balance_by None e = let a = same_words in let c = grown.none e in omega arith
  balance_by (Some w) e = let a = same_words in let c = grown.some w e in let d = allocated_total (words_at m') l t heap.0 heap.1 w in omega arith

  step_balances : Balances 0 l k
  step_balances =
      let a : total (words_in m') k.heaps ≡ total (words_in m') b.heaps = moves_total (weight (words_at m')) (weight_additive (words_at m')) t l.machine.tasks b.heaps k.heaps (L p l t S I can).2 in
      let c = balance_by (asked p l.machine t) refl in
      let d : total (words_in m') k.heaps + store_words l.machine.store ≡ held_words l + store_words m'.store = omega arith in
      subst (λ (m : MachineState). 0 + total (words_in m) k.heaps + store_words l.machine.store ≡ held_words l + store_words m.store) (sym (stepped_machine b t m')) (omega arith)

rest_balances : (l : Ledger) → Balances 0 l l
rest_balances l = omega arith

task_step_balances : (p : ProgramText) (l : Ledger) (t : ℕ) → SoundAt t l → StockedLedger l → Balances 0 l (task_step p l t)
task_step_balances p l t S I = task_step_balances_by_cases (can_step l.machine t) refl
  where
    task_step_balances_by_cases : (v : Bool) → can_step l.machine t ≡ v → Balances 0 l (cond v (stepped_to (allocated_in p l t) t (step p l.machine t)) (record l { steps = l.steps + 1 }))
    task_step_balances_by_cases false e = omega arith
    task_step_balances_by_cases true e = step_balances p l t S I e

task_steps_balance : (p : ProgramText) (k : ℕ) (l : Ledger) (t : ℕ) → SoundAt t l → StockedLedger l → Balances 0 l (task_steps p l t k)
task_steps_balance p zero l t S I = rest_balances l
task_steps_balance p (suc k) l t S I =
    balance_on 0 0 l (task_step p l t) (task_steps p (task_step p l t) t k) (task_step_balances p l t S I)
    (task_steps_balance p k (task_step p l t) t (task_step_sound p l t S) (task_step_stocked p l t S I))

-- OTHER ENTRIES

even : (l : Ledger) (t : ℕ) (f : Heap → Heap) → ((h : Heap) (g : Name → ℕ) → weight g (f h) ≡ weight g h) → Balances 0 l (with_heap l t f)
even l t f same = with_heap_any (Balances 0 l) l t f (rest_balances l) (λ h e.
    let a = total_set (words_in l.machine) l.heaps t h (f h) e in
    let b = same h (words_at l.machine) in
    omega arith)

drops : (l : Ledger) (t : ℕ) (f : Heap → Heap) → ((h : Heap) (g : Name → ℕ) → weight g (f h) ≤ weight g h) → words_in l.machine (f fresh) ≡ 0 → Balances (lost l t f) l (with_heap l t f)
drops l t f less none = drops_by_cases (heap_at l t) refl
  where
    drops_by_cases : (o : Option Heap) → heap_at l t ≡ o → Balances (words_in l.machine (or_fresh o) - words_in l.machine (f (or_fresh o))) l (with_heap_at l t f o)
    drops_by_cases None e = let z : words_in l.machine fresh ≡ 0 = refl in omega arith
    drops_by_cases (Some h) e = let a = total_set (words_in l.machine) l.heaps t h (f h) e in let b = less h (words_at l.machine) in omega arith

pub chunk_even : (next : Option ℕ) (h : Heap) (g : Name → ℕ) (b : Bool) → weight g (cond b (record h { chunks = h.chunks ++ [] ∷ []; room = chunk_words }) (record h { reserved = chunk_units next })) ≡ weight g h
chunk_even next h g true = chunk_weight g h chunk_words
chunk_even next h g false = refl

chunk_balances : (l : Ledger) (t : ℕ) (next : Option ℕ) (full : Bool) → Balances 0 l (cond full (record l { end = Some (Pool (in_use l)) }) (with_heap l t (with_chunk next)))
chunk_balances l t next true = omega arith
chunk_balances l t next false = even l t (with_chunk next) (λ h g. chunk_even next h g (on_asked next is_small_size))

-- what an entry frees
abbrev freed : Ledger → Kind → ℕ
freed l kind = freed_by_end l kind + freed_by_sweep l kind

kind_balances : (p : ProgramText) (s : SettingsValue) (l : Ledger) (w : ℕ) (kind : Kind) → SoundLedger l → StockedLedger l → is_none (kind_refusal p s l w kind) ≡ true → Balances (freed l kind) l (after_kind p s l w kind)
kind_balances p s l w (Took t) S I h = even l t _ (λ h g. refl)
kind_balances p s l w (Ran t k) S I h = task_steps_balance p k l t (S, (out_tells l w t _ h).1) I
kind_balances p s l w (Chunk t) S I h = chunk_balances l t (asked p l.machine t) (nat_lt s.chunks (in_use l + chunk_units (asked p l.machine t)))
kind_balances p s l w (Begin t) S I h = even l t _ (λ h g. refl)
kind_balances p s l w (EndOf t a g n) S I h = let d = drops l t (collected l.machine) (λ h f. collected_weight f l.machine h) refl in omega arith
kind_balances p s l w (PutOff t) S I h = even l t _ (λ h g. refl)
kind_balances p s l w (Mark t) S I h = even l t _ (λ h g. refl)
kind_balances p s l w (More t n) S I h = even l t _ (λ h g. refl)
kind_balances p s l w (Sweep t g) S I h = let d = drops l t swept_heap (λ h f. swept_weight f h) refl in omega arith
kind_balances p s l w Fuel S I h = omega arith

journal_balances : (p : ProgramText) (s : SettingsValue) (journal : List EntryValue) (l : Ledger) → SoundLedger l → StockedLedger l → is_legal_from p s l journal ≡ true
    → Balances (tally p s freed_by_end l journal + tally p s freed_by_sweep l journal) l (after_all p s l journal)
journal_balances p s [] l S I h = omega arith
journal_balances p s (e ∷ es) l S I h =
    let both = and_parts (is_none (refusal p s l e)) (is_legal_from p s (after p s l e) es) h in
    let kind = (entry_tells p s l e both.0).2 in
    let now = kind_balances p s l e.worker e.kind S I kind in
    let later = journal_balances p s es (after p s l e) (entry_sound p s l e S both.0) (kind_stocked p s l e.worker e.kind S kind I) both.1 in
    let all = balance_on (freed l e.kind) (tally p s freed_by_end (after p s l e) es + tally p s freed_by_sweep (after p s l e) es) l (after p s l e) (after_all p s (after p s l e) es) now later in
    omega arith

pub words_are_accounted : WordsAreAccounted
words_are_accounted p s journal legal =
    let l : Ledger = ledger_of p s journal in
    let all = journal_balances p s journal (opening p s) (opening_sound p s) (opening_stocked p s) legal in
    let flat = sum_flat (words_at l.machine) held_in l.heaps in
    let none : held_words (opening p s) ≡ 0 = refl in
    let empty : store_words (opening p s).machine.store ≡ 0 = refl in
    omega arith
