-- What an accepted entry keeps of forks and of the heaps of waiting tasks.
use Rattle.heap_marking.proofs.Common.{◌≡◌, ℕ, zero, suc, ◌+◌, ◌<◌, ◌≤◌, Bool, true, false, cond, Option, Some, None, List, [], ◌∷◌, ◌++◌, slice_get, slice_set, inl, inr, refl, ap, sym, subst, ◌∙◌, arith, is_none, nat_lt, cases_eq, got_other, got_same, ProgramText, Task, MachineState, asked, can_step, is_waiting, step, waits, Kind, Took, Ran, Chunk, Begin, End, PutOff, Mark, More, Sweep, Fuel, EntryValue, SettingsValue, Heap, Ledger, Pool, chunk_words, collected, heap_of, in_use, is_small_size, or_fresh, swept_heap, with_heap, allocated_in, on_asked, stepped_to, task_step, task_steps, after, after_kind, chunk_units, kind_refusal, refusal, with_chunk, SoundAt, SoundLedger, entry_tells, out_tells, stepped_machine, can_tells, step_leaves, task_step_sound, with_heap_any, wait_run, Touched, joins_grow}
use Rattle.heap_marking.proofs.StepsKeepForks.{TreeMoves, step_moves, tree_same}

-- a heap that is marked or swept stays so
abbrev pub StaysTouched : Heap → Heap → Type 0
StaysTouched h h' = (Touched h → Touched h') × (h.swept ≡ true → h'.swept ≡ true)

pub record Moves (l l' : Ledger) : Type 0 where
  pub tree : TreeMoves l.machine.tasks l'.machine.tasks
  pub grows : (u : ℕ) (x : Task) → slice_get l.machine.tasks u ≡ Some x → (y : Task) × (slice_get l'.machine.tasks u ≡ Some y) × (x.joins ≤ y.joins)
  pub heaps : (u : ℕ) (x : Task) → slice_get l.machine.tasks u ≡ Some x → waits x.status ≡ true → slice_get l'.machine.tasks u ≡ Some x → StaysTouched (heap_of l u) (heap_of l' u)

-- TASKS ALONE, one after the other
tree_then : (a b c : List Task) → TreeMoves a b → TreeMoves b c → ((u : ℕ) (x : Task) → slice_get b u ≡ Some x → (y : Task) × (slice_get c u ≡ Some y) × (x.joins ≤ y.joins)) → TreeMoves a c
tree_then a b c A B grows = record {
  children = λ u k p. B.children u k (A.children u k p);
  stays = λ k j. B.stays k (A.stays k j);
  goes = λ u x at w. elim (A.goes u x at w) [
    | inl f ↦ elim (B.goes u x f.0 w) [
      | inl g ↦ inl (g.0, λ k p j. g.1 k (A.children u k p) (f.1 k p j))
      | inr g ↦ inr (g.0, g.1, g.2, λ k p. g.3 k (A.children u k p))
    ]
    | inr g ↦ let y = grows u g.0 g.1 in let lt : x.joins < g.0.joins = g.2 in let le : g.0.joins ≤ y.0.joins = y.2 in inr (y.0, y.1, omega arith, λ k p. B.stays k (g.3 k p))
  ];
  live = λ h. B.live (A.live h);
}

-- it waits in between
between : (a b c : List Task) (u : ℕ) (x : Task) → TreeMoves a b → ((v : ℕ) (z : Task) → slice_get b v ≡ Some z → (y : Task) × (slice_get c v ≡ Some y) × (z.joins ≤ y.joins)) → slice_get a u ≡ Some x → waits x.status ≡ true → slice_get c u ≡ Some x
    → slice_get b u ≡ Some x
between a b c u x A grows at w at' = elim (A.goes u x at w) [
  | inl f ↦ f.0
  | inr g ↦
      let y = grows u g.0 g.1 in
      let e : Some y.0 ≡ Some x = sym y.1 ∙ at' in
      let lt : x.joins < g.0.joins = g.2 in
      let le : g.0.joins ≤ y.0.joins = y.2 in
      let j : y.0.joins ≡ x.joins = ap joins_of e in
      absurd (omega arith)
]
  where
    joins_of : Option Task → ℕ
    joins_of None = 0
    joins_of (Some z) = z.joins

pub same_moves : (l : Ledger) → Moves l l
same_moves l = record {
  tree = tree_same l.machine.tasks;
  grows = λ u x at. (x, at, omega arith);
  heaps = λ u x at w at'. (λ h. h, λ h. h);
}

pub moves_then : (a b c : Ledger) → Moves a b → Moves b c → Moves a c
moves_then a b c A B = record {
  tree = tree_then a.machine.tasks b.machine.tasks c.machine.tasks A.tree B.tree B.grows;
  grows = λ u x at. let y = A.grows u x at in let z = B.grows u y.0 y.1 in let p : x.joins ≤ y.0.joins = y.2 in let q : y.0.joins ≤ z.0.joins = z.2 in (z.0, z.1, omega arith);
  heaps = λ u x at w at'.
      let mid = between a.machine.tasks b.machine.tasks c.machine.tasks u x A.tree B.grows at w at' in
      let f = A.heaps u x at w mid in
      let g = B.heaps u x mid w at' in
      (λ h. g.0 (f.0 h), λ h. g.1 (f.1 h));
}

-- A STEP
module _ (p : ProgramText) (l : Ledger) (t : ℕ) (S : SoundAt t l) (can : can_step l.machine t ≡ true) where
  abbrev k : Ledger
  k = stepped_to (allocated_in p l t) t (step p l.machine t)

  abbrev machine_is : k.machine ≡ step p l.machine t
  machine_is = stepped_machine (allocated_in p l t) t (step p l.machine t)

  heap_stays : (u : ℕ) (x : Task) → slice_get l.machine.tasks u ≡ Some x → waits x.status ≡ true → slice_get k.machine.tasks u ≡ Some x → slice_get k.heaps u ≡ slice_get l.heaps u
  heap_stays u x at w at' = (step_leaves p l t S can).4 u (λ e. wait_run l.machine t (ap is_waiting (ap (slice_get l.machine.tasks) (sym e) ∙ at) ∙ w) (can_tells l.machine t can).1) (inr (ap is_waiting at' ∙ w))

  stepped_moves : Moves l k
  stepped_moves = record {
    tree = subst (λ (m : MachineState). TreeMoves l.machine.tasks m.tasks) (sym machine_is) (step_moves p l.machine t S.0.fork_join);
    grows = λ u x at. let y = joins_grow p l.machine t u x S.0.fork_join at in (y.0, ap (λ (m : MachineState). slice_get m.tasks u) machine_is ∙ y.1, y.2);
    heaps = λ u x at w at'. let e = heap_stays u x at w at' in subst (λ o. StaysTouched (heap_of l u) (or_fresh o)) (sym e) (λ h. h, λ h. h);
  }

pub task_step_moves : (p : ProgramText) (l : Ledger) (t : ℕ) → SoundAt t l → Moves l (task_step p l t)
task_step_moves p l t S = task_step_moves_by_cases (can_step l.machine t) refl
  where
    task_step_moves_by_cases : (v : Bool) → can_step l.machine t ≡ v → Moves l (cond v (stepped_to (allocated_in p l t) t (step p l.machine t)) (record l { steps = l.steps + 1 }))
    task_step_moves_by_cases false e = record { tree = tree_same l.machine.tasks; grows = λ u x at. (x, at, omega arith); heaps = λ u x at w at'. (λ h. h, λ h. h) }
    task_step_moves_by_cases true e = stepped_moves p l t S e

steps_moves : (p : ProgramText) (k : ℕ) (l : Ledger) (t : ℕ) → SoundAt t l → Moves l (task_steps p l t k)
steps_moves p zero l t S = same_moves l
steps_moves p (suc k) l t S = moves_then l (task_step p l t) (task_steps p (task_step p l t) t k) (task_step_moves p l t S) (steps_moves p k (task_step p l t) t (task_step_sound p l t S))

-- A CHANGE of a heap's account
heap_moves : (l : Ledger) (t : ℕ) (f : Heap → Heap) → ((h : Heap) → StaysTouched h (f h)) → Moves l (with_heap l t f)
heap_moves l t f touch = with_heap_any (λ (k : Ledger). Moves l k) l t f (same_moves l) (λ h e. record {
  tree = tree_same l.machine.tasks;
  grows = λ u x at. (x, at, omega arith);
  heaps = λ u x at w at'. elim (cases_eq u t) [
    | inl q ↦ subst (λ o. StaysTouched (or_fresh (slice_get l.heaps u)) (or_fresh o)) (sym (ap (slice_get (slice_set l.heaps t (f h))) q ∙ got_same l.heaps t h (f h) e))
        (subst (λ o. StaysTouched (or_fresh o) (f h)) (sym (ap (slice_get l.heaps) q ∙ e)) (touch h))
    | inr ne ↦ subst (λ o. StaysTouched (or_fresh (slice_get l.heaps u)) (or_fresh o)) (sym (got_other l.heaps t u (f h) ne)) (λ z. z, λ z. z)
  ];
})

chunk_touch : (h : Heap) (n : ℕ) (v : Bool) → StaysTouched h (cond v (record h { chunks = h.chunks ++ [] ∷ []; room = chunk_words }) (record h { reserved = n }))
chunk_touch h n true = (λ z. z, λ z. z)
chunk_touch h n false = (λ z. z, λ z. z)

chunk_moves : (l : Ledger) (t : ℕ) (next : Option ℕ) (full : Bool) → Moves l (cond full (record l { end = Some (Pool (in_use l)) }) (with_heap l t (with_chunk next)))
chunk_moves l t next true = record { tree = tree_same l.machine.tasks; grows = λ u x at. (x, at, omega arith); heaps = λ u x at w at'. (λ h. h, λ h. h) }
chunk_moves l t next false = heap_moves l t (with_chunk next) (λ h. chunk_touch h (chunk_units next) (on_asked next is_small_size))

kind_moves : (p : ProgramText) (s : SettingsValue) (l : Ledger) (w : ℕ) (kind : Kind) → SoundLedger l → is_none (kind_refusal p s l w kind) ≡ true → Moves l (after_kind p s l w kind)
kind_moves p s l w (Took t) S h = heap_moves l t _ (λ g. (λ z. z, λ z. z))
kind_moves p s l w (Ran t k) S h = steps_moves p k l t (S, (out_tells l w t _ h).1)
kind_moves p s l w (Chunk t) S h = chunk_moves l t (asked p l.machine t) (nat_lt s.chunks (in_use l + chunk_units (asked p l.machine t)))
kind_moves p s l w (Begin t) S h = heap_moves l t _ (λ g. (λ z. z, λ z. z))
kind_moves p s l w (End t a g n) S h = heap_moves l t (collected l.machine) (λ g. (λ z. z, λ z. z))
kind_moves p s l w (PutOff t) S h = heap_moves l t _ (λ g. (λ z. z, λ z. z))
kind_moves p s l w (Mark t) S h = heap_moves l t _ (λ g. (λ z. inl refl, λ z. z))
kind_moves p s l w (More t n) S h = heap_moves l t _ (λ g. (λ z. inl refl, λ z. z))
kind_moves p s l w (Sweep t g) S h = heap_moves l t swept_heap (λ g. (λ z. inr refl, λ z. refl))
kind_moves p s l w Fuel S h = record { tree = tree_same l.machine.tasks; grows = λ u x at. (x, at, omega arith); heaps = λ u x at w at'. (λ h. h, λ h. h) }

-- THE LAW
pub entry_moves : (p : ProgramText) (s : SettingsValue) (l : Ledger) (e : EntryValue) → SoundLedger l → refusal p s l e ≡ None → Moves l (after p s l e)
entry_moves p s l e S free = kind_moves p s l e.worker e.kind S (entry_tells p s l e (ap is_none free)).2
