-- As long as the run goes on, so does the machine.
use Rattle.run_ledger.proofs.Common.{◌≡◌, ℕ, zero, suc, ◌+◌, Bool, true, false, cond, Option, Some, None, List, [], ◌∷◌, nat_lt, refl, ap, ◌∙◌, ProgramText, Kind, Took, Ran, Chunk, Begin, End as EndOf, PutOff, Mark, More, Sweep, Fuel, EntryValue, SettingsValue, MachineState, step, can_step, asked, Heap, Ledger, RunEnd, Pool, with_heap, with_heap_at, heap_at, in_use, allocated_in, settled, stepped_to, task_step, task_steps, after_kind, after, with_chunk, chunk_units, opening, after_all, MachineGoesOn}
use Rattle.path_laws.specs.below.hh_model.{End}
use Rattle.run_ledger.proofs.Machine.{stepped_machine}

abbrev pub Goes : Ledger → Type 0
Goes l = l.end ≡ None → l.machine.end ≡ None

heap_goes : (l : Ledger) (t : ℕ) (f : Heap → Heap) → Goes l → Goes (with_heap l t f)
heap_goes l t f g = heap_goes_by_cases (heap_at l t)
  where
    heap_goes_by_cases : (o : Option Heap) → Goes (with_heap_at l t f o)
    heap_goes_by_cases None = g
    heap_goes_by_cases (Some h) = g

settled_none : (l : Ledger) (t : ℕ) (o : Option End) → (settled l t o).end ≡ None → o ≡ None
settled_none l t (Some e) h = absurd cc
settled_none l t None h = refl

stepped_goes : (l : Ledger) (t : ℕ) (m : MachineState) → Goes (stepped_to l t m)
stepped_goes l t m h = ap (λ (z : MachineState). z.end) (stepped_machine l t m) ∙ settled_none (record l { machine = m; steps = l.steps + 1 }) t m.end h

pub step_goes : (p : ProgramText) (l : Ledger) (t : ℕ) → Goes l → Goes (task_step p l t)
step_goes p l t g = step_goes_by_cases (can_step l.machine t)
  where
    step_goes_by_cases : (c : Bool) → Goes (cond c (stepped_to (allocated_in p l t) t (step p l.machine t)) (record l { steps = l.steps + 1 }))
    step_goes_by_cases true = stepped_goes (allocated_in p l t) t (step p l.machine t)
    step_goes_by_cases false = g

pub steps_go : (p : ProgramText) (k : ℕ) (l : Ledger) (t : ℕ) → Goes l → Goes (task_steps p l t k)
steps_go p zero l t g = g
steps_go p (suc k) l t g = steps_go p k (task_step p l t) t (step_goes p l t g)

chunk_goes : (l : Ledger) (t : ℕ) (next : Option ℕ) (e : RunEnd) (full : Bool) → Goes l → Goes (cond full (record l { end = Some e }) (with_heap l t (with_chunk next)))
chunk_goes l t next e true g h = absurd cc
chunk_goes l t next e false g h = heap_goes l t (with_chunk next) g h

kind_goes : (p : ProgramText) (s : SettingsValue) (l : Ledger) (w : ℕ) (kind : Kind) → Goes l → Goes (after_kind p s l w kind)
kind_goes p s l w (Took t) g = heap_goes l t _ g
kind_goes p s l w (Ran t k) g = steps_go p k l t g
kind_goes p s l w (Chunk t) g = chunk_goes l t (asked p l.machine t) (Pool (in_use l)) (nat_lt s.chunks (in_use l + chunk_units (asked p l.machine t))) g
kind_goes p s l w (Begin t) g = heap_goes l t _ g
kind_goes p s l w (EndOf t x y z) g = heap_goes l t _ g
kind_goes p s l w (PutOff t) g = heap_goes l t _ g
kind_goes p s l w (Mark t) g = heap_goes l t _ g
kind_goes p s l w (More t n) g = heap_goes l t _ g
kind_goes p s l w (Sweep t n) g = heap_goes l t _ g
kind_goes p s l w Fuel g = λ h. absurd cc

all_goes : (p : ProgramText) (s : SettingsValue) (j : List EntryValue) (l : Ledger) → Goes l → Goes (after_all p s l j)
all_goes p s [] l g = g
all_goes p s (e ∷ es) l g = all_goes p s es (after p s l e) (kind_goes p s l e.worker e.kind g)

pub machine_goes_on : MachineGoesOn
machine_goes_on p s j = all_goes p s j (opening p s) (λ h. refl)
