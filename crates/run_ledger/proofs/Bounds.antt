-- How many steps a legal journal takes, and what holds before each allocation.
use Rattle.run_ledger.proofs.Common.{◌≡◌, ℕ, zero, suc, ◌+◌, ◌<◌, ◌≤◌, ◌&&◌, ◌||◌, min, Bool, true, false, cond, Option, Some, None, List, [], ◌∷◌, ◌++◌, slice_get, nat_le, nat_lt, refl, ap, sym, subst, ◌∙◌, arith, is_none, inl, inr, ◌⊎◌, false≢true, and_parts, leb-true, leb-false, Kind, Took, Ran, Chunk, Begin, End as EndOf, PutOff, Mark, More, Sweep, Fuel, EntryValue, SettingsValue, ProgramText, TaskStatus, Running, Waiting, Ended, Joined, Task, is_left, can_step, step, asked, Heap, Ledger, with_heap, with_heap_at, heap_at, within, fresh, let_go, emptied, forked_heap, in_use, lacks_room, join_heaps, moved_on, moved_to, settled, stepped_to, allocated_by, allocated_in, task_step, task_steps, on_asked, most_steps, standing, after_kind, after, chunk_units, refusal, long_at, after_all, opening, is_legal_from, StepsAreBounded}
use Rattle.path_laws.specs.below.hh_model.{End}
use Rattle.run_ledger.proofs.Journals.{entry_tells, out_tells, none_unless}

-- STEPS

heap_at_steps : (l : Ledger) (t : ℕ) (f : Heap → Heap) (o : Option Heap) → (with_heap_at l t f o).steps ≡ l.steps
heap_at_steps l t f None = refl
heap_at_steps l t f (Some h) = refl

pub heap_steps : (l : Ledger) (t : ℕ) (f : Heap → Heap) → (with_heap l t f).steps ≡ l.steps
heap_steps l t f = heap_at_steps l t f (heap_at l t)

join_steps : (l : Ledger) (p c : ℕ) → (join_heaps l p c).steps ≡ l.steps
join_steps l p c = heap_steps _ (c + 1) emptied ∙ (heap_steps _ c emptied ∙ heap_steps l p _)

moved_on_steps : (l : Ledger) (t : ℕ) (parent : Option ℕ) (s : TaskStatus) → (moved_on l t parent s).steps ≡ l.steps
moved_on_steps l t parent Running = refl
moved_on_steps l t parent Waiting = heap_steps (record l { heaps = l.heaps ++ fresh ∷ fresh ∷ [] }) t (forked_heap (within l t))
moved_on_steps l t parent (Ended k n) = heap_steps l t let_go
moved_on_steps l t None Joined = refl
moved_on_steps l t (Some p) Joined = join_steps l p (cond (is_left t) t _)

moved_to_steps : (l : Ledger) (t : ℕ) (o : Option Task) → (moved_to l t o).steps ≡ l.steps
moved_to_steps l t None = refl
moved_to_steps l t (Some x) = moved_on_steps l t x.parent x.status

settled_steps : (l : Ledger) (t : ℕ) (o : Option End) → (settled l t o).steps ≡ l.steps
settled_steps l t (Some e) = refl
settled_steps l t None = moved_to_steps l t (slice_get l.machine.tasks t)

allocated_steps : (l : Ledger) (t : ℕ) (o : Option ℕ) → (allocated_by l t o).steps ≡ l.steps
allocated_steps l t None = refl
allocated_steps l t (Some w) = heap_steps l t _

pub task_step_steps : (p : ProgramText) (l : Ledger) (t : ℕ) → (task_step p l t).steps ≡ l.steps + 1
task_step_steps p l t = task_step_steps_by_cases (can_step l.machine t)
  where
    task_step_steps_by_cases : (v : Bool) → (cond v (stepped_to (allocated_in p l t) t (step p l.machine t)) (record l { steps = l.steps + 1 })).steps ≡ l.steps + 1
    task_step_steps_by_cases true = settled_steps (record (allocated_in p l t) { machine = step p l.machine t; steps = (allocated_in p l t).steps + 1 }) t (step p l.machine t).end ∙ ap (λ n. n + 1) (allocated_steps l t (asked p l.machine t))
    task_step_steps_by_cases false = refl

pub task_steps_steps : (p : ProgramText) (k : ℕ) (l : Ledger) (t : ℕ) → (task_steps p l t k).steps ≡ l.steps + k
task_steps_steps p zero l t = omega arith
task_steps_steps p (suc k) l t = let more = task_steps_steps p k (task_step p l t) t in let one = task_step_steps p l t in omega arith

-- an entry without steps
pub chunk_steps : (l : Ledger) (t : ℕ) (full : Bool) (end : Ledger) (f : Heap → Heap) → end.steps ≡ l.steps → (cond full end (with_heap l t f)).steps ≡ l.steps
chunk_steps l t true end f e = e
chunk_steps l t false end f e = heap_steps l t f

long_bound : (k m : ℕ) → is_none (long_at k m) ≡ true → k ≤ m
long_bound k m h = leb-true k m (none_unless (nat_le k m) _ _ h).0

-- an entry has at most 257 steps, none of which is due or in need
pub ran_tells : (p : ProgramText) (s : SettingsValue) (l : Ledger) (w t k : ℕ) → is_none (refusal p s l (record { worker = w; kind = Ran t k })) ≡ true → (k ≤ 257) × (k ≤ standing s p l t k) × (l.steps < s.fuel)
ran_tells p s l w t k h =
    let a = entry_tells p s l (record { worker = w; kind = Ran t k }) h in
    let b = out_tells l w t _ a.2 in
    let c : k ≤ min most_steps (standing s p l t k) = long_bound k (min most_steps (standing s p l t k)) b.2 in
    let d : l.steps < s.fuel = leb-false s.fuel l.steps (left_false (nat_le s.fuel l.steps) a.1) in
    (omega arith, omega arith, d)
  where
    left_false : (v : Bool) → (v && true) ≡ false → v ≡ false
    left_false true e = e
    left_false false e = refl

module _ (p : ProgramText) (s : SettingsValue) where
  abbrev InBounds : Ledger → Type 0
  InBounds l = l.steps ≤ s.fuel + 256

  kind_bound : (l : Ledger) (w : ℕ) (kind : Kind) → is_none (refusal p s l (record { worker = w; kind = kind })) ≡ true → InBounds l → InBounds (after_kind p s l w kind)
  kind_bound l w (Took t) h b = subst (λ n. n ≤ s.fuel + 256) (sym (heap_steps l t _)) b
  kind_bound l w (Ran t k) h b =
      let r = ran_tells p s l w t k h in
      let a : k ≤ 257 = r.0 in
      let c : l.steps < s.fuel = r.2 in
      let e = task_steps_steps p k l t in
      omega arith
  kind_bound l w (Chunk t) h b = subst (λ n. n ≤ s.fuel + 256) (sym (chunk_steps l t (nat_lt s.chunks (in_use l + chunk_units (asked p l.machine t))) _ _ refl)) b
  kind_bound l w (Begin t) h b = subst (λ n. n ≤ s.fuel + 256) (sym (heap_steps l t _)) b
  kind_bound l w (EndOf t a g n) h b = subst (λ k. k ≤ s.fuel + 256) (sym (heap_steps l t _)) b
  kind_bound l w (PutOff t) h b = subst (λ n. n ≤ s.fuel + 256) (sym (heap_steps l t _)) b
  kind_bound l w (Mark t) h b = subst (λ n. n ≤ s.fuel + 256) (sym (heap_steps l t _)) b
  kind_bound l w (More t k) h b = subst (λ n. n ≤ s.fuel + 256) (sym (heap_steps l t _)) b
  kind_bound l w (Sweep t g) h b = subst (λ n. n ≤ s.fuel + 256) (sym (heap_steps l t _)) b
  kind_bound l w Fuel h b = b

  bound_from : (journal : List EntryValue) (l : Ledger) → is_legal_from p s l journal ≡ true → InBounds l → InBounds (after_all p s l journal)
  bound_from [] l h b = b
  bound_from (e ∷ es) l h b =
      let both = and_parts (is_none (refusal p s l e)) (is_legal_from p s (after p s l e) es) h in
      bound_from es (after p s l e) both.1 (kind_bound l e.worker e.kind both.0 b)

pub steps_are_bounded : StepsAreBounded
steps_are_bounded p s journal legal = bound_from p s journal (opening p s) legal (omega arith)

-- ALLOCATIONS

pub asked_bounds : (s : SettingsValue) (h : Heap) (o : Option ℕ) (w : ℕ) → o ≡ Some w → (on_asked o (λ v. nat_le s.leaf h.since) || on_asked o (lacks_room h)) ≡ false → (h.since < s.leaf) × (lacks_room h w ≡ false)
asked_bounds s h o w e f = asked_bounds_by_cases (nat_le s.leaf h.since) (lacks_room h w) refl (subst (λ (v : Option ℕ). (on_asked v (λ u. nat_le s.leaf h.since) || on_asked v (lacks_room h)) ≡ false) e f)
  where
    asked_bounds_by_cases : (a b : Bool) → nat_le s.leaf h.since ≡ a → (a || b) ≡ false → (h.since < s.leaf) × (b ≡ false)
    asked_bounds_by_cases true b is g = absurd (false≢true (sym g))
    asked_bounds_by_cases false b is g = (leb-false s.leaf h.since is, g)

module _ (p : ProgramText) (s : SettingsValue) (t : ℕ) where
  pub stands_by : (l : Ledger) (k : ℕ) (a b : Bool) (rest : ℕ) → suc k ≤ cond a 0 (cond b (suc rest) 1) → (a ≡ false) × ((b ≡ true) × (k ≤ rest)) ⊎ (a ≡ false) × (k ≡ 0)
  stands_by l k true b rest h = absurd (omega arith)
  stands_by l k false true rest h = inl (refl, (refl, omega arith))
  stands_by l k false false rest h = inr (refl, omega arith)
