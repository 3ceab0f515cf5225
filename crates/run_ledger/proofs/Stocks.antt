-- Each held name is held once, and is in the store.
use Rattle.run_ledger.proofs.Common.{◌≡◌, ℕ, zero, suc, ◌+◌, ◌<◌, ◌≤◌, Bool, true, false, cond, Option, Some, None, List, [], ◌∷◌, ◌++◌, length, slice_get, slice_set, sum_by, nat_lt, inl, inr, refl, ap, sym, subst, ◌∙◌, arith, is_none, AllByRecursion, cases_lt, sum_by-cons, In, in_from_contains, Kind, Took, Ran, Chunk, Begin, End as EndOf, PutOff, Mark, More, Sweep, Fuel, EntryValue, SettingsValue, field_limit, ProgramText, Name, MachineState, step, can_step, asked, IsStored, next_name, IsForkJoinState, can_made, Counted, counted_step, start_counted, Heap, Ledger, Pool, is_name, held_in, held, heap_at, with_heap, with_heap_at, with_allocation, chunk_words, is_small_size, in_use, collected, swept_heap, fresh, allocated_by, allocated_in, stepped_to, task_step, task_steps, on_asked, kind_refusal, after_kind, chunk_units, with_chunk, opening, ledger_of, is_legal, NamesAreHeldOnce}
use Rattle.std.specs.List.{IsDistinct}
use Rattle.run_ledger.proofs.Members.{same_from_is_name, is_name_itself}
use Rattle.run_ledger.proofs.Machine.{stepped_machine}
use Rattle.run_ledger.proofs.Sound.{SomeHeapHas, InHeaps, heap_names, SoundLedger, held_keeps}
use Rattle.run_ledger.proofs.Steps.{SoundAt, StepLeaves, step_keeps, step_leaves, steps_keep, heap_of_task, can_tells}
use Rattle.run_ledger.proofs.Grown.{Grown, grown, next_unstored}
use Rattle.run_ledger.proofs.Weights.{weight, total, total_set, sum_flat, placed_weight, collected_weight, swept_weight, chunk_weight, moves_total, weight_additive}
use Rattle.run_ledger.proofs.Journals.{journal_keeps, out_tells, opening_sound, legal_sound}

-- HOW OFTEN A NAME IS IN A LIST

abbrev pub hit : Name → Name → ℕ
hit n m = cond (is_name m n) 1 0

hit_in_by : (n x : Name) (xs : List Name) (b : Bool) → is_name x n ≡ b → (1 ≤ sum_by (hit n) xs → In xs n) → 1 ≤ cond b 1 0 + sum_by (hit n) xs → In (x ∷ xs) n
hit_in_by n x xs true e more h = inl (same_from_is_name x n e)
hit_in_by n x xs false e more h = inr (more (omega arith))

pub hit_in : (n : Name) (xs : List Name) → 1 ≤ sum_by (hit n) xs → In xs n
hit_in n [] h = absurd (omega arith)
hit_in n (x ∷ xs) h = hit_in_by n x xs (is_name x n) refl (hit_in n xs) (subst (λ k. 1 ≤ k) (sum_by-cons (hit n) x xs) h)

pub hit_itself : (n : Name) → hit n n ≡ 1
hit_itself n = ap (λ b. cond b 1 0) (is_name_itself n)

pub in_hit : (n : Name) (xs : List Name) → In xs n → 1 ≤ sum_by (hit n) xs
in_hit n [] i = elim i [ ]
in_hit n (x ∷ xs) (inl e) =
    let a = sum_by-cons (hit n) x xs in
    let b : hit n x ≡ 1 = ap (hit n) e ∙ hit_itself n in
    omega arith
in_hit n (x ∷ xs) (inr i) = let a = sum_by-cons (hit n) x xs in let b = in_hit n xs i in omega arith

pub distinct : (xs : List Name) → ((n : Name) → sum_by (hit n) xs ≤ 1) → IsDistinct is_name xs
unfolding IsDistinct
distinct [] h = tt
distinct (x ∷ xs) h = (
  apart xs (λ y i. i),
  distinct xs (λ n. let a = sum_by-cons (hit n) x xs in let b : sum_by (hit n) (x ∷ xs) ≤ 1 = h n in omega arith),
)
  where
    other : (y : Name) → In xs y → (b : Bool) → is_name x y ≡ b → is_name x y ≡ false
    other y i false e = e
    other y i true e =
        let same : x ≡ y = same_from_is_name x y e in
        let a = sum_by-cons (hit x) x xs in
        let b : sum_by (hit x) (x ∷ xs) ≤ 1 = h x in
        let c : 1 ≤ sum_by (hit x) xs = in_hit x xs (subst (In xs) (sym same) i) in
        let d = hit_itself x in
        absurd (omega arith)

    apart : (ys : List Name) → ((y : Name) → In ys y → In xs y) → AllByRecursion (λ y. is_name x y ≡ false) ys
    apart [] sub = tt
    apart (y ∷ ys) sub = (other y (sub y (inl refl)) (is_name x y) refl, apart ys (λ z i. sub z (inr i)))

-- and in all heaps
abbrev pub copies : Name → List Heap → ℕ
copies n heaps = total (weight (hit n)) heaps

keeps_by : (n : Name) (h : Heap) (heaps : List Heap) → (1 ≤ copies n heaps → SomeHeapHas heaps n) → 1 ≤ weight (hit n) h + copies n heaps → SomeHeapHas (h ∷ heaps) n
keeps_by n h heaps more le = elim (cases_lt 0 (weight (hit n) h)) [
  | inl pos ↦ (zero, hit_in n (held_in h) (omega arith))
  | inr none ↦ let k = more (omega arith) in (suc k.0, k.1)
]

pub copies_keeps : (n : Name) (heaps : List Heap) → 1 ≤ copies n heaps → SomeHeapHas heaps n
copies_keeps n [] h = absurd (omega arith)
copies_keeps n (h ∷ heaps) le = keeps_by n h heaps (copies_keeps n heaps) (subst (λ k. 1 ≤ k) (sum_by-cons (weight (hit n)) h heaps) le)

copies_at : (n : Name) (heaps : List Heap) (u : ℕ) → InHeaps heaps u n → 1 ≤ copies n heaps
copies_at n [] u i = absurd i
copies_at n (h ∷ heaps) zero i = let a = sum_by-cons (weight (hit n)) h heaps in let b = in_hit n (held_in h) i in omega arith
copies_at n (h ∷ heaps) (suc u) i = let a = sum_by-cons (weight (hit n)) h heaps in let b = copies_at n heaps u i in omega arith

pub keeps_copies : (n : Name) (heaps : List Heap) → SomeHeapHas heaps n → 1 ≤ copies n heaps
keeps_copies n heaps k = copies_at n heaps k.0 k.1

-- INVARIANTS OF LEGAL JOURNALS

pub record Stocked (m : MachineState) (heaps : List Heap) : Type 0 where
  pub counted : (k : ℕ) × Counted k m.tasks m.store
  pub stored : (n : Name) → SomeHeapHas heaps n → IsStored m n
  pub once : (n : Name) → copies n heaps ≤ 1

abbrev pub StockedLedger : Ledger → Type 0
StockedLedger l = Stocked l.machine l.heaps

shrunk : (m : MachineState) (heaps heaps' : List Heap) → Stocked m heaps → ((n : Name) → copies n heaps' ≤ copies n heaps) → Stocked m heaps'
shrunk m heaps heaps' I less = record {
  counted = I.counted;
  stored = λ n k. I.stored n (copies_keeps n heaps (let a = keeps_copies n heaps' k in let b = less n in omega arith));
  once = λ n. (let a = less n in let b = I.once n in omega arith);
}

pub with_heap_any : (C : Ledger → Type 0) (l : Ledger) (t : ℕ) (f : Heap → Heap) → C l → ((h : Heap) → slice_get l.heaps t ≡ Some h → C (record l { heaps = slice_set l.heaps t (f h) })) → C (with_heap l t f)
with_heap_any C l t f same each = with_heap_any_by_cases (heap_at l t) refl
  where
    with_heap_any_by_cases : (o : Option Heap) → heap_at l t ≡ o → C (with_heap_at l t f o)
    with_heap_any_by_cases None e = same
    with_heap_any_by_cases (Some h) e = each h e

lighter : (l : Ledger) (t : ℕ) (f : Heap → Heap) → ((h : Heap) (g : Name → ℕ) → weight g (f h) ≤ weight g h) → StockedLedger l → StockedLedger (with_heap l t f)
lighter l t f less I = with_heap_any StockedLedger l t f I (λ h e. shrunk l.machine l.heaps (slice_set l.heaps t (f h)) I (λ n.
    let a = total_set (weight (hit n)) l.heaps t h (f h) e in
    let b = less h (hit n) in
    omega arith))

pub same_weight : (h : Heap) (g : Name → ℕ) → weight g h ≤ weight g h
same_weight h g = omega arith

pub chunk_lighter : (next : Option ℕ) (h : Heap) (g : Name → ℕ) (b : Bool) → weight g (cond b (record h { chunks = h.chunks ++ [] ∷ []; room = chunk_words }) (record h { reserved = chunk_units next })) ≤ weight g h
chunk_lighter next h g true = let a = chunk_weight g h chunk_words in omega arith
chunk_lighter next h g false = same_weight h g

-- an allocation
pub allocated_total : (g : Name → ℕ) (l : Ledger) (t : ℕ) (h : Heap) → slice_get l.heaps t ≡ Some h → (w : ℕ) → total (weight g) (allocated_by l t (Some w)).heaps ≡ total (weight g) l.heaps + g (next_name t l.machine.store)
allocated_total g l t h e w =
    ap (λ (k : Ledger). total (weight g) k.heaps) (ap (with_heap_at l t (λ h. with_allocation h (next_name t l.machine.store) w)) e)
    ∙ (let a = total_set (weight g) l.heaps t h (with_allocation h (next_name t l.machine.store) w) e in
    let b = placed_weight g h (next_name t l.machine.store) w in
    omega arith)

module _ (p : ProgramText) (l : Ledger) (t : ℕ) (S : SoundAt t l) (I : StockedLedger l) (can : can_step l.machine t ≡ true) where
  abbrev m : MachineState
  m = l.machine

  abbrev b : Ledger
  b = allocated_in p l t

  abbrev k : Ledger
  k = stepped_to (allocated_in p l t) t (step p l.machine t)

  abbrev heap : (h : Heap) × (slice_get l.heaps t ≡ Some h)
  heap = heap_of_task l t S.0 (can_tells m t can).1

  K : IsForkJoinState l.machine
  K = S.0.fork_join

  row : t < length l.machine.store
  row = let a : length l.machine.store ≡ length l.machine.tasks = I.counted.1.rows in let lt : t < length l.machine.tasks = can_made l.machine t can in omega arith

  pub G : Grown p l.machine t
  G = grown p l.machine t K can row

  pub L : StepLeaves t l b k
  L = step_leaves p l t S can

  abbrev Allotted : List Heap → Type 0
  Allotted heaps = ((n : Name) → copies n heaps ≤ 1) × ((n : Name) → 1 ≤ copies n heaps → IsStored (step p m t) n)

  none_held : (n : Name) → next_name t l.machine.store ≡ n → copies n l.heaps ≤ 0
  none_held n same = elim (cases_lt 0 (copies n l.heaps)) [
    | inl pos ↦ absurd (next_unstored m t (subst (IsStored m) (sym same) (I.stored n (copies_keeps n l.heaps (omega arith)))))
    | inr le ↦ le
  ]

  once_by : (n : Name) (v : Bool) → is_name (next_name t l.machine.store) n ≡ v → copies n l.heaps + cond v 1 0 ≤ 1
  once_by n true e = let a = none_held n (same_from_is_name (next_name t l.machine.store) n e) in omega arith
  once_by n false e = let a = I.once n in omega arith

  stored_by : (w : ℕ) → asked p m t ≡ Some w → (n : Name) (v : Bool) → is_name (next_name t l.machine.store) n ≡ v → 1 ≤ copies n l.heaps + cond v 1 0 → IsStored (step p m t) n
  stored_by w e n true is le = subst (IsStored (step p m t)) (same_from_is_name (next_name t l.machine.store) n is) (G.new w e).0
  stored_by w e n false is le = G.up n (I.stored n (copies_keeps n l.heaps (omega arith)))

  allotted_by : (o : Option ℕ) → asked p m t ≡ o → Allotted (allocated_by l t o).heaps
  allotted_by None e = (I.once, λ n le. G.up n (I.stored n (copies_keeps n l.heaps le)))
  allotted_by (Some w) e = (
    λ n. subst (λ c. c ≤ 1) (sym (allocated_total (hit n) l t heap.0 heap.1 w)) (once_by n (is_name (next_name t l.machine.store) n) refl),
    λ n le. stored_by w e n (is_name (next_name t l.machine.store) n) refl (subst (λ c. 1 ≤ c) (allocated_total (hit n) l t heap.0 heap.1 w) le),
  )

  pub allotted : Allotted b.heaps
  allotted = allotted_by (asked p m t) refl

  pub same_copies : (n : Name) → copies n k.heaps ≡ copies n b.heaps
  same_copies n = moves_total (weight (hit n)) (weight_additive (hit n)) t l.machine.tasks b.heaps k.heaps L.2

  pub step_stocked : StockedLedger k
  step_stocked = subst (λ (s : MachineState). Stocked s k.heaps) (sym (stepped_machine b t (step p m t))) (record {
    counted = (suc I.counted.0, counted_step p m t K I.counted.0 I.counted.1);
    stored = λ n q. allotted.1 n (subst (λ c. 1 ≤ c) (same_copies n) (keeps_copies n k.heaps q));
    once = λ n. subst (λ c. c ≤ 1) (sym (same_copies n)) (allotted.0 n);
  })

pub task_step_stocked : (p : ProgramText) (l : Ledger) (t : ℕ) → SoundAt t l → StockedLedger l → StockedLedger (task_step p l t)
task_step_stocked p l t S I = step_keeps StockedLedger p l t (step_stocked p l t S I) I

pub task_steps_stocked : (p : ProgramText) (k : ℕ) (l : Ledger) (t : ℕ) → SoundAt t l → StockedLedger l → StockedLedger (task_steps p l t k)
task_steps_stocked p k l t S I = steps_keep StockedLedger p t (λ m R J. task_step_stocked p m t R J) k l S I

-- ENTRIES

chunk_stocked : (l : Ledger) (t : ℕ) (next : Option ℕ) (full : Bool) (end : Ledger) → StockedLedger end → StockedLedger l → StockedLedger (cond full end (with_heap l t (with_chunk next)))
chunk_stocked l t next true end E I = E
chunk_stocked l t next false end E I = lighter l t (with_chunk next) (λ h g. chunk_lighter next h g (on_asked next is_small_size)) I

pub kind_stocked : (p : ProgramText) (s : SettingsValue) (l : Ledger) (w : ℕ) (kind : Kind) → SoundLedger l → is_none (kind_refusal p s l w kind) ≡ true → StockedLedger l → StockedLedger (after_kind p s l w kind)
kind_stocked p s l w (Took t) S h I = lighter l t _ (λ h g. same_weight h g) I
kind_stocked p s l w (Ran t k) S h I = task_steps_stocked p k l t (S, (out_tells l w t _ h).1) I
kind_stocked p s l w (Chunk t) S h I = chunk_stocked l t (asked p l.machine t) (nat_lt s.chunks (in_use l + chunk_units (asked p l.machine t))) (record l { end = Some (Pool (in_use l)) }) I I
kind_stocked p s l w (Begin t) S h I = lighter l t _ (λ h g. same_weight h g) I
kind_stocked p s l w (EndOf t a g n) S h I = lighter l t (collected l.machine) (λ h f. collected_weight f l.machine h) I
kind_stocked p s l w (PutOff t) S h I = lighter l t _ (λ h g. same_weight h g) I
kind_stocked p s l w (Mark t) S h I = lighter l t _ (λ h g. same_weight h g) I
kind_stocked p s l w (More t n) S h I = lighter l t _ (λ h g. same_weight h g) I
kind_stocked p s l w (Sweep t g) S h I = lighter l t swept_heap (λ h f. swept_weight f h) I
kind_stocked p s l w Fuel S h I = I

pub opening_stocked : (p : ProgramText) (s : SettingsValue) → StockedLedger (opening p s)
opening_stocked p s = record {
  counted = (0, start_counted p (field_limit s.version));
  stored = λ n k. absurd (let a = keeps_copies n (fresh ∷ []) k in omega (arith, nothing n));
  once = λ n. omega (arith, nothing n);
}
  where
    nothing : (n : Name) → copies n (fresh ∷ []) ≡ 0
    nothing n = refl

pub legal_stocked : (p : ProgramText) (s : SettingsValue) (journal : List EntryValue) → is_legal p s journal ≡ true → StockedLedger (ledger_of p s journal)
legal_stocked p s journal legal = journal_keeps StockedLedger p s (kind_stocked p s) journal (opening p s) (opening_sound p s) (opening_stocked p s) legal

pub names_are_held_once : NamesAreHeldOnce
names_are_held_once p s journal legal =
    let l = ledger_of p s journal in
    let S = legal_sound p s journal legal in
    let I = legal_stocked p s journal legal in
    record {
      once = distinct (held l) (λ n. subst (λ c. c ≤ 1) (sym (sum_flat (hit n) held_in l.heaps)) (I.once n));
      owned = λ t n c. (S.owners t n (in_from_contains (heap_names (slice_get l.heaps t)) n c)).1;
      stored = λ n c. I.stored n (held_keeps l n (in_from_contains (held l) n c));
    }
