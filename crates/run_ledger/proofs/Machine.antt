-- The machine of a journal's accounts is the run of the journal's steps.
use Rattle.run_ledger.proofs.Common.{◌≡◌, ℕ, zero, suc, ◌+◌, ◌-◌, Bool, true, false, cond, Option, Some, None, List, [], ◌∷◌, ◌++◌, slice_get, replicate, nat_lt, refl, ap, sym, ◌∙◌, arith, cond-false, Kind, Took, Ran, Chunk, Begin, End as EndOf, PutOff, Mark, More, Sweep, Fuel, EntryValue, SettingsValue, ProgramText, TaskStatus, Running, Waiting, Ended, Joined, Task, MachineState, is_left, can_step, or_same, stepped, fetched, step, asked, run_from, run_on, Heap, Ledger, with_heap, with_heap_at, heap_at, within, fresh, let_go, emptied, forked_heap, in_use, join_heaps, moved_on, moved_to, settled, stepped_to, allocated_in, task_step, task_steps, after_kind, after, chunk_units, after_all, opening, tasks_in, tasks_of, EntriesMoveMachine, MachineIsRun}
use Rattle.path_laws.specs.below.hh_model.{End}

-- n steps of a task and then k more
pub task_steps_more : (p : ProgramText) (t n k : ℕ) (l : Ledger) → task_steps p l t (n + k) ≡ task_steps p (task_steps p l t n) t k
task_steps_more p t zero k l = ap (task_steps p l t) (let e : 0 + k ≡ k = omega arith in e)
task_steps_more p t (suc n) k l = ap (task_steps p l t) (let e : suc n + k ≡ suc (n + k) = omega arith in e) ∙ task_steps_more p t n k (task_step p l t)

heap_at_machine : (l : Ledger) (t : ℕ) (f : Heap → Heap) (o : Option Heap) → (with_heap_at l t f o).machine ≡ l.machine
heap_at_machine l t f None = refl
heap_at_machine l t f (Some h) = refl

pub heap_machine : (l : Ledger) (t : ℕ) (f : Heap → Heap) → (with_heap l t f).machine ≡ l.machine
heap_machine l t f = heap_at_machine l t f (heap_at l t)

join_machine : (l : Ledger) (p c : ℕ) → (join_heaps l p c).machine ≡ l.machine
join_machine l p c = heap_machine _ (c + 1) emptied ∙ (heap_machine _ c emptied ∙ heap_machine l p _)

moved_on_machine : (l : Ledger) (t : ℕ) (parent : Option ℕ) (s : TaskStatus) → (moved_on l t parent s).machine ≡ l.machine
moved_on_machine l t parent Running = refl
moved_on_machine l t parent Waiting = heap_machine (record l { heaps = l.heaps ++ fresh ∷ fresh ∷ [] }) t (forked_heap (within l t))
moved_on_machine l t parent (Ended k n) = heap_machine l t let_go
moved_on_machine l t None Joined = refl
moved_on_machine l t (Some p) Joined = join_machine l p (cond (is_left t) t (t - 1))

moved_to_machine : (l : Ledger) (t : ℕ) (o : Option Task) → (moved_to l t o).machine ≡ l.machine
moved_to_machine l t None = refl
moved_to_machine l t (Some x) = moved_on_machine l t x.parent x.status

settled_machine : (l : Ledger) (t : ℕ) (o : Option End) → (settled l t o).machine ≡ l.machine
settled_machine l t (Some e) = refl
settled_machine l t None = moved_to_machine l t (slice_get l.machine.tasks t)

pub stepped_machine : (l : Ledger) (t : ℕ) (m : MachineState) → (stepped_to l t m).machine ≡ m
stepped_machine l t m = settled_machine _ t m.end

pub task_step_machine : (p : ProgramText) (l : Ledger) (t : ℕ) → (task_step p l t).machine ≡ step p l.machine t
task_step_machine p l t = task_step_machine_by_cases (can_step l.machine t) refl
  where
    task_step_machine_by_cases : (v : Bool) → can_step l.machine t ≡ v → (cond v (stepped_to (allocated_in p l t) t (step p l.machine t)) (record l { steps = l.steps + 1 })).machine ≡ step p l.machine t
    task_step_machine_by_cases true e = stepped_machine (allocated_in p l t) t (step p l.machine t)
    task_step_machine_by_cases false e = sym (cond-false (can_step l.machine t) (or_same l.machine (slice_get l.machine.tasks t) (λ x. stepped p l.machine t x (fetched p x.top))) l.machine e)

steps_machine : (p : ProgramText) (k : ℕ) (l : Ledger) (t : ℕ) → (task_steps p l t k).machine ≡ run_from p l.machine (replicate k t)
steps_machine p zero l t = refl
steps_machine p (suc k) l t = steps_machine p k (task_step p l t) t ∙ ap (λ m. run_from p m (replicate k t)) (task_step_machine p l t)

chunk_machine : (l : Ledger) (t : ℕ) (full : Bool) (end : Ledger) (f : Heap → Heap) → end.machine ≡ l.machine → (cond full end (with_heap l t f)).machine ≡ l.machine
chunk_machine l t true end f e = e
chunk_machine l t false end f e = heap_machine l t f

pub kind_machine : (p : ProgramText) (s : SettingsValue) (l : Ledger) (w : ℕ) (kind : Kind) → (after_kind p s l w kind).machine ≡ run_from p l.machine (tasks_in kind)
kind_machine p s l w (Took t) = heap_machine l t _
kind_machine p s l w (Ran t k) = steps_machine p k l t
kind_machine p s l w (Chunk t) = chunk_machine l t (nat_lt s.chunks (in_use l + chunk_units (asked p l.machine t))) _ _ refl
kind_machine p s l w (Begin t) = heap_machine l t _
kind_machine p s l w (EndOf t a g n) = heap_machine l t _
kind_machine p s l w (PutOff t) = heap_machine l t _
kind_machine p s l w (Mark t) = heap_machine l t _
kind_machine p s l w (More t n) = heap_machine l t _
kind_machine p s l w (Sweep t g) = heap_machine l t _
kind_machine p s l w Fuel = refl

all_machine : (p : ProgramText) (s : SettingsValue) (journal : List EntryValue) (l : Ledger) → (after_all p s l journal).machine ≡ run_from p l.machine (tasks_of journal)
all_machine p s [] l = refl
all_machine p s (e ∷ es) l =
    all_machine p s es (after p s l e)
    ∙ (ap (λ m. run_from p m (tasks_of es)) (kind_machine p s l e.worker e.kind) ∙ sym (run_on p (tasks_in e.kind) (tasks_of es) l.machine))

pub machine_is_run : MachineIsRun
machine_is_run p s journal = all_machine p s journal (opening p s)

pub entries_move_machine : EntriesMoveMachine
entries_move_machine p s l e = kind_machine p s l e.worker e.kind
