-- What is known if a task can take a step.
use Rattle.hh_model.proofs.Common.{◌≡◌, ℕ, ◌+◌, ◌<◌, ◌^◌, Bool, true, false, cond, Option, Some, None, IfSome, length, slice_get, refl, ap, ◌∙◌, arith, get_or, false≢true, All-get_or, slice_get_within, get_or_from_slice_get, Line, Fun, ProgramText, IsProgram, IsFunction, code_of, line_at, Task, End, MachineState, effect, is_running, goes_on, can_step, step, stepped, follow, setting, fetched, or_same}

runs_at : (o : Option End) (b : Bool) → goes_on o b ≡ true → b ≡ true
runs_at None b h = h
runs_at (Some e) b h = absurd (false≢true h)

pub can_runs : (m : MachineState) (t : ℕ) → can_step m t ≡ true → is_running (slice_get m.tasks t) ≡ true
can_runs m t h = runs_at m.end (is_running (slice_get m.tasks t)) h

pub can_task : (m : MachineState) (t : ℕ) → can_step m t ≡ true → (x : Task) × (slice_get m.tasks t ≡ Some x) × (is_running (Some x) ≡ true)
can_task m t h = can_task_by_cases (slice_get m.tasks t) refl (can_runs m t h)
  where
    can_task_by_cases : (o : Option Task) → slice_get m.tasks t ≡ o → is_running o ≡ true → (x : Task) × (slice_get m.tasks t ≡ Some x) × (is_running (Some x) ≡ true)
    can_task_by_cases None e r = absurd (false≢true r)
    can_task_by_cases (Some x) e r = (x, e, r)

made_by : (m : MachineState) (t : ℕ) (o : Option Task) → slice_get m.tasks t ≡ o → is_running o ≡ true → t < length m.tasks
made_by m t None e h = absurd (false≢true h)
made_by m t (Some x) e h = slice_get_within m.tasks t x e

pub can_made : (m : MachineState) (t : ℕ) → can_step m t ≡ true → t < length m.tasks
can_made m t h = made_by m t (slice_get m.tasks t) refl (can_runs m t h)

-- the place after an instruction fits in 32 bits
fits_by : (p : ProgramText) (f n : ℕ) (line : Line) (o : Option Fun) → IsProgram p → slice_get p.functions f ≡ o → slice_get (code_of o) n ≡ Some line → n + 1 < 2 ^ 32
fits_by p f n line None I e h = absurd cc
fits_by p f n line (Some fun) I e h =
    let at : get_or p.functions f fun ≡ fun = get_or_from_slice_get p.functions f fun fun e in
    let each : IsFunction (length p.functions) (get_or p.functions f fun) = All-get_or (IsFunction (length p.functions)) p.functions f fun (slice_get_within p.functions f fun e) I.each in
    let sized : length (get_or p.functions f fun).code < 2 ^ 32 = each.sized in
    let within : n < length fun.code = slice_get_within fun.code n line h in
    omega (arith, ap (λ (g : Fun). length g.code) at)

pub next_fits : (p : ProgramText) (f n : ℕ) (line : Line) → IsProgram p → line_at p f n ≡ Some line → n + 1 < 2 ^ 32
next_fits p f n line I h = fits_by p f n line (slice_get p.functions f) I refl h

taken_by : (p : ProgramText) (m : MachineState) (t : ℕ) (x : Task) (o : Option Line) → can_step m t ≡ true → slice_get m.tasks t ≡ Some x → fetched p x.top ≡ o → step p m t ≡ stepped p m t x o
taken_by p m t x o can is line =
    ap (λ b. cond b (or_same m (slice_get m.tasks t) (λ y. stepped p m t y (fetched p y.top))) m) can
    ∙ (ap (λ y. or_same m y (λ z. stepped p m t z (fetched p z.top))) is ∙ ap (stepped p m t x) line)

pub step_taken : (p : ProgramText) (m : MachineState) (t : ℕ) (x : Task) (line : Line) → can_step m t ≡ true → slice_get m.tasks t ≡ Some x → fetched p x.top ≡ Some line
    → step p m t ≡ follow m t x line.number (effect (setting m t x) x.top m.store line.instr)
step_taken p m t x line can is at = taken_by p m t x (Some line) can is at

pub step_none : (p : ProgramText) (m : MachineState) (t : ℕ) (x : Task) → can_step m t ≡ true → slice_get m.tasks t ≡ Some x → fetched p x.top ≡ None → step p m t ≡ m
step_none p m t x can is at = taken_by p m t x None can is at

pub step_idle : (p : ProgramText) (m : MachineState) (t : ℕ) → can_step m t ≡ false → step p m t ≡ m
step_idle p m t can = ap (λ b. cond b (or_same m (slice_get m.tasks t) (λ y. stepped p m t y (fetched p y.top))) m) can

-- without an instruction at the task's place, a step changes nothing
pub step_nothing : (p : ProgramText) (m : MachineState) (t : ℕ) → can_step m t ≡ true → IfSome (slice_get m.tasks t) (λ x. fetched p x.top ≡ None) → step p m t ≡ m
step_nothing p m t can next = step_nothing_by_cases (slice_get m.tasks t) refl next
  where
    step_nothing_by_cases : (o : Option Task) → slice_get m.tasks t ≡ o → IfSome o (λ x. fetched p x.top ≡ None) → step p m t ≡ m
    step_nothing_by_cases None e h =
        ap (λ b. cond b (or_same m (slice_get m.tasks t) (λ y. stepped p m t y (fetched p y.top))) m) can
        ∙ ap (λ y. or_same m y (λ z. stepped p m t z (fetched p z.top))) e
    step_nothing_by_cases (Some x) e h = step_none p m t x can e h
