-- The steps of a journal's accounts are those of its entries.
use Rattle.journal_laws.proofs.Common.{◌≡◌, ℕ, ◌+◌, List, [], ◌∷◌, length, subst, sym, ◌∙◌, nat_lt, arith, length-append, refl, length-replicate, Kind, Took, Ran, Chunk, Begin, End, PutOff, Mark, More, Sweep, Fuel, EntryValue, SettingsValue, field_limit, ProgramText, MachineState, Counted, asked, runs_are_counted, Ledger, in_use, after_kind, after, chunk_units, opening, after_all, ledger_of, tasks_in, tasks_of, JournalsAreCounted, chunk_steps, heap_steps, task_steps_steps, machine_is_run}

kind_steps : (p : ProgramText) (s : SettingsValue) (l : Ledger) (w : ℕ) (kind : Kind) → (after_kind p s l w kind).steps ≡ l.steps + length (tasks_in kind)
kind_steps p s l w (Ran t k) = let a = task_steps_steps p k l t in let b = length-replicate k t in omega (arith, a, b)
kind_steps p s l w (Took t) = let a = heap_steps l t _ in a ∙ omega arith
kind_steps p s l w (Chunk t) = chunk_steps l t (nat_lt s.chunks (in_use l + chunk_units (asked p l.machine t))) _ _ refl ∙ omega arith
kind_steps p s l w (Begin t) = heap_steps l t _ ∙ omega arith
kind_steps p s l w (End t a g n) = heap_steps l t _ ∙ omega arith
kind_steps p s l w (PutOff t) = heap_steps l t _ ∙ omega arith
kind_steps p s l w (Mark t) = heap_steps l t _ ∙ omega arith
kind_steps p s l w (More t n) = heap_steps l t _ ∙ omega arith
kind_steps p s l w (Sweep t g) = heap_steps l t _ ∙ omega arith
kind_steps p s l w Fuel = omega arith

pub all_steps : (p : ProgramText) (s : SettingsValue) (journal : List EntryValue) (l : Ledger) → (after_all p s l journal).steps ≡ l.steps + length (tasks_of journal)
all_steps p s [] l = omega arith
all_steps p s (e ∷ es) l =
    let a = all_steps p s es (after p s l e) in
    let b = kind_steps p s l e.worker e.kind in
    let c = length-append (tasks_in e.kind) (tasks_of es) in
    omega (arith, a, b, c)

pub journals_are_counted : JournalsAreCounted
journals_are_counted p s journal =
    let l : Ledger = ledger_of p s journal in
    let steps : l.steps ≡ length (tasks_of journal) = all_steps p s journal (opening p s) ∙ omega arith in
    record {
      steps = steps;
      counts = subst (λ n. Counted n l.machine.tasks l.machine.store) (sym steps)
          (subst (λ (m : MachineState). Counted (length (tasks_of journal)) m.tasks m.store) (sym (machine_is_run p s journal)) (runs_are_counted p (field_limit s.version) (tasks_of journal)));
    }
