-- Where the machine has ended, a legal journal has ended with it.
use Rattle.run_read_laws.proofs.Common.{◌≡◌, ◌+◌, ℕ, zero, suc, Bool, true, false, cond, Option, Some, None, List, [], ◌∷◌, refl, ap, sym, ◌∙◌, and_parts, false≢true, is_none, is_some, can_step, step, End, MachineState, none_some, kind_machine, machine_is_run, stepped_machine, after, after_kind, refusal, refused_if, after_all, end_of, is_legal, is_legal_from, machine_of, opening, allocated_in, settled, stepped_to, task_step, task_steps, Ledger, Refused, Over, RunEnd, Machine, ProgramText, EntryValue, SettingsValue, Kind, Took, Ran, Chunk, Begin, PutOff, Mark, More, Sweep, Fuel}
use Rattle.run_turn_laws.specs.below.run_trace.{End as EndOf}

abbrev EndsWith : Ledger → Type 0
EndsWith l = (e : End) → l.machine.end ≡ Some e → l.end ≡ Some (Machine e)

stepped_ends : (l : Ledger) (t : ℕ) (m : MachineState) → EndsWith (stepped_to l t m)
stepped_ends l t m e h =
    let k : m.end ≡ Some e = ap (λ (z : MachineState). z.end) (sym (stepped_machine l t m)) ∙ h in
    ap (λ o. (settled (record l { machine = m; steps = l.steps + 1 }) t o).end) k

step_ends : (p : ProgramText) (l : Ledger) (t : ℕ) → EndsWith l → EndsWith (task_step p l t)
step_ends p l t E = step_ends_by_cases (can_step l.machine t)
  where
    step_ends_by_cases : (c : Bool) → EndsWith (cond c (stepped_to (allocated_in p l t) t (step p l.machine t)) (record l { steps = l.steps + 1 }))
    step_ends_by_cases true = stepped_ends (allocated_in p l t) t (step p l.machine t)
    step_ends_by_cases false = E

steps_end : (p : ProgramText) (k : ℕ) (l : Ledger) (t : ℕ) → EndsWith l → EndsWith (task_steps p l t k)
steps_end p zero l t E = E
steps_end p (suc k) l t E = steps_end p k (task_step p l t) t (step_ends p l t E)

module _ (p : ProgramText) (s : SettingsValue) (l : Ledger) (w : ℕ) (on : l.end ≡ None) (E : EndsWith l) where
  -- an entry without steps ends no machine
  still : (kind : Kind) → (after_kind p s l w kind).machine ≡ l.machine → EndsWith (after_kind p s l w kind)
  still kind same e h = none_some (sym on ∙ E e (ap (λ (m : MachineState). m.end) (sym same) ∙ h))

  kind_ends : (kind : Kind) → EndsWith (after_kind p s l w kind)
  kind_ends (Took t) = still (Took t) (kind_machine p s l w (Took t))
  kind_ends (Ran t k) = steps_end p k l t E
  kind_ends (Chunk t) = still (Chunk t) (kind_machine p s l w (Chunk t))
  kind_ends (Begin t) = still (Begin t) (kind_machine p s l w (Begin t))
  kind_ends (EndOf t a g n) = still (EndOf t a g n) (kind_machine p s l w (EndOf t a g n))
  kind_ends (PutOff t) = still (PutOff t) (kind_machine p s l w (PutOff t))
  kind_ends (Mark t) = still (Mark t) (kind_machine p s l w (Mark t))
  kind_ends (More t n) = still (More t n) (kind_machine p s l w (More t n))
  kind_ends (Sweep t g) = still (Sweep t g) (kind_machine p s l w (Sweep t g))
  kind_ends Fuel = still Fuel (kind_machine p s l w Fuel)

-- an entry is refused once the run has ended
on_by : (o : Option RunEnd) (rest : Option Refused) → is_none (refused_if (is_some o) Over rest) ≡ true → o ≡ None
on_by None rest h = refl
on_by (Some e) rest h = absurd (false≢true h)

ends_from : (p : ProgramText) (s : SettingsValue) (journal : List EntryValue) (l : Ledger) → is_legal_from p s l journal ≡ true → EndsWith l → EndsWith (after_all p s l journal)
ends_from p s [] l legal E = E
ends_from p s (e ∷ es) l legal E =
    let parts = and_parts (is_none (refusal p s l e)) (is_legal_from p s (after p s l e) es) legal in
    ends_from p s es (after p s l e) parts.1 (kind_ends p s l e.worker (on_by l.end _ parts.0) E e.kind)

pub run_ended : (p : ProgramText) (s : SettingsValue) (journal : List EntryValue) (e : End) → is_legal p s journal ≡ true → (machine_of p s journal).end ≡ Some e → end_of p s journal ≡ Some (Machine e)
run_ended p s journal e legal h = ends_from p s journal (opening p s) legal (λ x q. none_some q) e (ap (λ (m : MachineState). m.end) (machine_is_run p s journal) ∙ h)
