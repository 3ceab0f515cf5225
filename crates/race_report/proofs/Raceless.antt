-- A run without races is never entangled.
use Rattle.race_report.proofs.Common.{◌≡◌, ℕ, zero, suc, ◌+◌, Bool, true, false, cond, Option, Some, None, List, [], ◌∷◌, slice_get, nat_lt, inl, inr, refl, ap, sym, ◌∙◌, false≢true, in_from_contains, ProgramText, Kind, Took, Ran, Chunk, Begin, PutOff, Mark, More, Sweep, Fuel, EntryValue, SettingsValue, field_limit, Edge, End, Entangled, MachineState, Task, asked, can_step, goes_on, is_running, run, step, Heap, Ledger, Machine, Pool, in_use, with_heap, allocated_in, moved_to, settled, stepped_to, task_step, task_steps, after, after_kind, chunk_units, with_chunk, after_all, end_of, machine_of, opening, tasks_of, heap_machine, machine_is_run, allocated_end, heap_end, moved_on_end, FieldAccess, accesses, IsReport, HasNoRace, RacelessIsDisentangled, RacelessJournalsAreDisentangled}
use Rattle.run_journal.specs.below.run_trace.{End as EndOf}
use Rattle.race_report.proofs.Stopped.{stopped_reads_race}

no_race : (edges : List Edge) (all : List FieldAccess) → IsReport edges all [] → HasNoRace edges all
no_race edges all R field i j u v r = let pair = R.every field i j u v r in in_from_contains [] _ pair.3

pub raceless_is_disentangled : RacelessIsDisentangled
raceless_is_disentangled p limit ts t owner (inl none) e = let r = stopped_reads_race p limit ts t owner e in none r.v.field r.i r.j r.u r.v r.race
raceless_is_disentangled p limit ts t owner (inr report) e =
    let r = stopped_reads_race p limit ts t owner e in no_race (run p limit ts).edges (accesses p limit ts) report r.v.field r.i r.j r.u r.v r.race

-- IF THE MACHINE HAS ENDED THE RUN, the run has ended

abbrev EndsAlike : Ledger → Type 0
EndsAlike l = (e : End) → l.end ≡ Some (Machine e) → l.machine.end ≡ Some e

-- only the heaps' accounts change
heap_alike : (l : Ledger) (t : ℕ) (f : Heap → Heap) → EndsAlike l → EndsAlike (with_heap l t f)
heap_alike l t f E e h = ap (λ (m : MachineState). m.end) (heap_machine l t f) ∙ E e (sym (heap_end l t f) ∙ h)

settled_alike : (l : Ledger) (t : ℕ) (o : Option End) → l.machine.end ≡ o → ((e : End) → l.end ≡ Some (Machine e) → ⊥) → EndsAlike (settled l t o)
settled_alike l t (Some z) is on e h = is ∙ (let same : Some z ≡ Some e = same_end h in same)
  where
    same_end : Some (Machine z) ≡ Some (Machine e) → Some z ≡ Some e
    same_end q = cc
settled_alike l t None is on e h = absurd (on e (settled_alike_by_cases (slice_get l.machine.tasks t) h))
  where
    settled_alike_by_cases : (o : Option Task) → (moved_to l t o).end ≡ Some (Machine e) → l.end ≡ Some (Machine e)
    settled_alike_by_cases None q = q
    settled_alike_by_cases (Some x) q = sym (moved_on_end l t x.parent x.status) ∙ q

step_alike : (p : ProgramText) (l : Ledger) (t : ℕ) → EndsAlike l → EndsAlike (task_step p l t)
step_alike p l t E = step_alike_by_cases (can_step l.machine t) refl
  where
    stopped : (o : Option End) (runs : Bool) (e : End) → goes_on o runs ≡ true → o ≡ Some e → ⊥
    stopped None runs e g h = cc
    stopped (Some z) runs e g h = false≢true g

    step_alike_by_cases : (c : Bool) → can_step l.machine t ≡ c → EndsAlike (cond c (stepped_to (allocated_in p l t) t (step p l.machine t)) (record l { steps = l.steps + 1 }))
    step_alike_by_cases true can = settled_alike (record (allocated_in p l t) { machine = step p l.machine t; steps = (allocated_in p l t).steps + 1 }) t (step p l.machine t).end refl
        (λ e h. stopped l.machine.end (is_running (slice_get l.machine.tasks t)) e can (E e (sym (allocated_end l t (asked p l.machine t)) ∙ h)))
    step_alike_by_cases false can = E

steps_alike : (p : ProgramText) (k : ℕ) (l : Ledger) (t : ℕ) → EndsAlike l → EndsAlike (task_steps p l t k)
steps_alike p zero l t E = E
steps_alike p (suc k) l t E = steps_alike p k (task_step p l t) t (step_alike p l t E)

chunk_alike : (l : Ledger) (t n : ℕ) (next : Option ℕ) (full : Bool) → EndsAlike l → EndsAlike (cond full (record l { end = Some (Pool n) }) (with_heap l t (with_chunk next)))
chunk_alike l t n next true E = λ e h. absurd cc
chunk_alike l t n next false E = heap_alike l t (with_chunk next) E

kind_alike : (p : ProgramText) (s : SettingsValue) (l : Ledger) (w : ℕ) (kind : Kind) → EndsAlike l → EndsAlike (after_kind p s l w kind)
kind_alike p s l w (Took t) E = heap_alike l t _ E
kind_alike p s l w (Ran t k) E = steps_alike p k l t E
kind_alike p s l w (Chunk t) E = chunk_alike l t (in_use l) (asked p l.machine t) (nat_lt s.chunks (in_use l + chunk_units (asked p l.machine t))) E
kind_alike p s l w (Begin t) E = heap_alike l t _ E
kind_alike p s l w (EndOf t x y z) E = heap_alike l t _ E
kind_alike p s l w (PutOff t) E = heap_alike l t _ E
kind_alike p s l w (Mark t) E = heap_alike l t _ E
kind_alike p s l w (More t n) E = heap_alike l t _ E
kind_alike p s l w (Sweep t g) E = heap_alike l t _ E
kind_alike p s l w Fuel E = λ e h. absurd cc

all_alike : (p : ProgramText) (s : SettingsValue) (journal : List EntryValue) (l : Ledger) → EndsAlike l → EndsAlike (after_all p s l journal)
all_alike p s [] l E = E
all_alike p s (e ∷ es) l E = all_alike p s es (after p s l e) (kind_alike p s l e.worker e.kind E)

pub machine_ended : (p : ProgramText) (s : SettingsValue) (journal : List EntryValue) (e : End) → end_of p s journal ≡ Some (Machine e) → (machine_of p s journal).end ≡ Some e
machine_ended p s journal e h =
    ap (λ (m : MachineState). m.end) (sym (machine_is_run p s journal)) ∙ all_alike p s journal (opening p s) (λ x q. absurd cc) e h

pub raceless_journals_are_disentangled : RacelessJournalsAreDisentangled
raceless_journals_are_disentangled p s journal t owner report h =
    raceless_is_disentangled p (field_limit s.version) (tasks_of journal) t owner (inr report) (machine_ended p s journal (Entangled t owner) h)
