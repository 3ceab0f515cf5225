-- A worker that holds a task after an entry held it before, except for the worker that takes one.
use Rattle.journal_replay.proofs.Common.{◌≡◌, ◌≢◌, ℕ, zero, suc, ◌+◌, ◌-◌, Bool, true, false, cond, Option, Some, None, List, [], ◌∷◌, ◌++◌, slice_get, nat_lt, inl, inr, ap, sym, ◌∙◌, cases_eq, same_Some, none_some, ProgramText, Name, MachineState, TaskStatus, Running, Waiting, Joined, Task, asked, can_step, is_left, step, SettingsValue, Kind, Took, Ran, Chunk, Begin, End as EndOf, PutOff, Mark, More, Sweep, Fuel, Heap, Ledger, RunEnd, Pool, after_kind, chunk_units, with_chunk, chunk_words, collected, emptied, forked_heap, fresh, heap_of, in_use, is_small_size, let_go, merged, or_fresh, with_allocation, put_last, swept_heap, with_heap, within, allocated_by, allocated_in, at_fork, join_heaps, moved_on, moved_to, on_asked, settled, stepped_to, task_step, task_steps, heap_then, with_at, with_off, is_own}
use Rattle.heap_reading.specs.below.hh_model.{End, Ended}

-- a worker that holds a task in the one held it in the other
abbrev pub WasHeld : Ledger → Ledger → Type 0
WasHeld l l' = (u k : ℕ) → (heap_of l' u).worker ≡ Some k → (heap_of l u).worker ≡ Some k

pub then_held : (a b c : Ledger) → WasHeld a b → WasHeld b c → WasHeld a c
then_held a b c f g u k e = f u k (g u k e)

-- one account changes, and the worker of its task held it before
pub one_held : (l : Ledger) (t : ℕ) (f : Heap → Heap) → ((h : Heap) (k : ℕ) → (f h).worker ≡ Some k → h.worker ≡ Some k) → WasHeld l (with_heap l t f)
one_held l t f keeps u k e = elim (cases_eq u t) [
  | inl q ↦ ap (λ v. (heap_of l v).worker) q ∙ one_held_by_cases (slice_get l.heaps t) (ap (λ o. (or_fresh o).worker) (sym (with_at l t f)) ∙ (ap (λ v. (heap_of (with_heap l t f) v).worker) (sym q) ∙ e))
  | inr ne ↦ ap (λ o. (or_fresh o).worker) (sym (with_off l t u f ne)) ∙ e
]
  where
    one_held_by_cases : (o : Option Heap) → (or_fresh (heap_then f o)).worker ≡ Some k → (or_fresh o).worker ≡ Some k
    one_held_by_cases None h = none_some h
    one_held_by_cases (Some h) q = keeps h k q

-- ---- A STEP

placed_held : (n : Name) (w : ℕ) (h : Heap) (k : ℕ) → (with_allocation h n w).worker ≡ Some k → h.worker ≡ Some k
placed_held n w h k = placed_held_by_cases (is_small_size w)
  where
    placed_held_by_cases : (b : Bool) → (cond b (record h { chunks = put_last h.chunks n; room = h.room - w; since = h.since + w }) (record h { large = h.large ++ n ∷ []; reserved = 0; since = h.since + w })).worker ≡ Some k → h.worker ≡ Some k
    placed_held_by_cases true e = e
    placed_held_by_cases false e = e

allocated_held : (l : Ledger) (t : ℕ) (o : Option ℕ) → WasHeld l (allocated_by l t o)
allocated_held l t None = λ u k e. e
allocated_held l t (Some w) = one_held l t _ (λ h k e. placed_held (record { task = t; count = _ }) w h k e)

-- heaps without a worker are added
more_held : (hs : List Heap) (u k : ℕ) → (or_fresh (slice_get (hs ++ fresh ∷ fresh ∷ []) u)).worker ≡ Some k → (or_fresh (slice_get hs u)).worker ≡ Some k
more_held [] zero k e = none_some e
more_held [] (suc zero) k e = none_some e
more_held [] (suc (suc u)) k e = none_some e
more_held (h ∷ hs) zero k e = e
more_held (h ∷ hs) (suc u) k e = more_held hs u k e

fork_held : (l : Ledger) (t : ℕ) → WasHeld l (at_fork l t)
fork_held l t =
    let more : Ledger = record l { heaps = l.heaps ++ fresh ∷ fresh ∷ [] } in
    then_held l more (at_fork l t) (λ u k e. more_held l.heaps u k e) (one_held more t (forked_heap (within l t)) (λ h k e. none_some e))

join_held : (l : Ledger) (parent left : ℕ) → WasHeld l (join_heaps l parent left)
join_held l parent left =
    let a : Ledger = with_heap l parent (λ h. merged h (heap_of l left) (heap_of l (left + 1))) in
    let b : Ledger = with_heap a left emptied in
    then_held l a (join_heaps l parent left) (one_held l parent (λ h. merged h (heap_of l left) (heap_of l (left + 1))) (λ h k e. e))
    (then_held a b (join_heaps l parent left) (one_held a left emptied (λ h k e. none_some e)) (one_held b (left + 1) emptied (λ h k e. none_some e)))

moved_on_held : (l : Ledger) (t : ℕ) (parent : Option ℕ) (s : TaskStatus) → WasHeld l (moved_on l t parent s)
moved_on_held l t parent Running = λ u k e. e
moved_on_held l t parent Waiting = fork_held l t
moved_on_held l t parent (Ended n r) = one_held l t let_go (λ h k e. none_some e)
moved_on_held l t None Joined = λ u k e. e
moved_on_held l t (Some p) Joined = join_held l p (cond (is_left t) t (t - 1))

moved_to_held : (l : Ledger) (t : ℕ) (o : Option Task) → WasHeld l (moved_to l t o)
moved_to_held l t None = λ u k e. e
moved_to_held l t (Some x) = moved_on_held l t x.parent x.status

settled_held : (l : Ledger) (t : ℕ) (o : Option End) → WasHeld l (settled l t o)
settled_held l t (Some x) = λ u k e. e
settled_held l t None = moved_to_held l t (slice_get l.machine.tasks t)

step_held : (p : ProgramText) (l : Ledger) (t : ℕ) → WasHeld l (task_step p l t)
step_held p l t = step_held_by_cases (can_step l.machine t)
  where
    a : Ledger
    a = allocated_in p l t

    m : MachineState
    m = step p l.machine t

    step_held_by_cases : (b : Bool) → WasHeld l (cond b (stepped_to (allocated_in p l t) t (step p l.machine t)) (record l { steps = l.steps + 1 }))
    step_held_by_cases false = λ u k e. e
    step_held_by_cases true =
        then_held l a (stepped_to a t m) (allocated_held l t (asked p l.machine t))
        (then_held a (record a { machine = m; steps = a.steps + 1 }) (stepped_to a t m) (λ u k e. e) (settled_held (record a { machine = m; steps = a.steps + 1 }) t m.end))

pub steps_held : (p : ProgramText) (n : ℕ) (l : Ledger) (t : ℕ) → WasHeld l (task_steps p l t n)
steps_held p zero l t = λ u k e. e
steps_held p (suc n) l t = then_held l (task_step p l t) (task_steps p (task_step p l t) t n) (step_held p l t) (steps_held p n (task_step p l t) t)

-- ---- AN ENTRY

-- a worker that holds a task after an entry held it before, unless it took the task
abbrev pub WasHeldBut : ℕ → Ledger → Ledger → Type 0
WasHeldBut w l l' = (u k : ℕ) → k ≢ w → (heap_of l' u).worker ≡ Some k → (heap_of l u).worker ≡ Some k

took_held : (l : Ledger) (t w : ℕ) → WasHeldBut w l (with_heap l t (λ h. record h { worker = Some w }))
took_held l t w u k ne e = elim (cases_eq u t) [
  | inl q ↦ took_held_by_cases (slice_get l.heaps t) (ap (λ o. (or_fresh o).worker) (sym (with_at l t f)) ∙ (ap (λ v. (heap_of (with_heap l t f) v).worker) (sym q) ∙ e))
  | inr off ↦ ap (λ o. (or_fresh o).worker) (sym (with_off l t u f off)) ∙ e
]
  where
    f : Heap → Heap
    f = λ h. record h { worker = Some w }

    took_held_by_cases : (o : Option Heap) → (or_fresh (heap_then f o)).worker ≡ Some k → (heap_of l u).worker ≡ Some k
    took_held_by_cases None h = none_some h
    took_held_by_cases (Some h) q = absurd (ne (sym (same_Some w k q)))

chunk_held : (l : Ledger) (t : ℕ) (next : Option ℕ) (full : Bool) (end : RunEnd) → WasHeld l (cond full (record l { end = Some end }) (with_heap l t (with_chunk next)))
chunk_held l t next true end = λ u k e. e
chunk_held l t next false end = one_held l t (with_chunk next) (λ h k e. chunk_held_by_cases h k (on_asked next is_small_size) e)
  where
    chunk_held_by_cases : (h : Heap) (k : ℕ) (b : Bool) → (cond b (record h { chunks = h.chunks ++ [] ∷ []; room = chunk_words }) (record h { reserved = chunk_units next })).worker ≡ Some k → h.worker ≡ Some k
    chunk_held_by_cases h k true e = e
    chunk_held_by_cases h k false e = e

-- an entry of any other kind keeps that for each worker
pub kind_held : (p : ProgramText) (s : SettingsValue) (l : Ledger) (w : ℕ) (kind : Kind) → WasHeldBut w l (after_kind p s l w kind)
kind_held p s l w (Took t) = took_held l t w
kind_held p s l w (Ran t n) = λ u k ne e. steps_held p n l t u k e
kind_held p s l w (Chunk t) = λ u k ne e. chunk_held l t (asked p l.machine t) (nat_lt s.chunks (in_use l + chunk_units (asked p l.machine t))) (Pool (in_use l)) u k e
kind_held p s l w (Begin t) = λ u k ne e. one_held l t _ (λ h j q. q) u k e
kind_held p s l w (EndOf t a g n) = λ u k ne e. one_held l t (collected l.machine) (λ h j q. q) u k e
kind_held p s l w (PutOff t) = λ u k ne e. one_held l t _ (λ h j q. q) u k e
kind_held p s l w (Mark t) = λ u k ne e. one_held l t _ (λ h j q. q) u k e
kind_held p s l w (More t n) = λ u k ne e. one_held l t _ (λ h j q. q) u k e
kind_held p s l w (Sweep t g) = λ u k ne e. one_held l t swept_heap (λ h j q. q) u k e
kind_held p s l w Fuel = λ u k ne e. e

-- and one for a task that no worker takes or holds keeps it for all
pub apart_held : (p : ProgramText) (s : SettingsValue) (l : Ledger) (w : ℕ) (kind : Kind) → is_own kind ≡ false → WasHeld l (after_kind p s l w kind)
apart_held p s l w (Took t) h = absurd cc
apart_held p s l w (Ran t n) h = absurd cc
apart_held p s l w (Chunk t) h = absurd cc
apart_held p s l w (Begin t) h = absurd cc
apart_held p s l w (EndOf t a g n) h = absurd cc
apart_held p s l w (PutOff t) h = absurd cc
apart_held p s l w (Mark t) h = one_held l t _ (λ h j q. q)
apart_held p s l w (More t n) h = one_held l t _ (λ h j q. q)
apart_held p s l w (Sweep t g) h = one_held l t swept_heap (λ h j q. q)
apart_held p s l w Fuel h = λ u k e. e
