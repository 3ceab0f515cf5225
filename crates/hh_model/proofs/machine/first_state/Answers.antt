use Rattle.hh_model.proofs.Common.{◌≡◌, ℕ, ◌++◌, List, ◌∷◌, [], ap₂, ◌∙◌, ProgramText, Frame, Object, MachineState, Task, root, start}
use Rattle.hh_model.proofs.machine.first_state.Goals as goal

-- the first task, from the function that it runs and the frames below
root_by : (p : ProgramText) (f : ℕ) (below : List Frame) → f ≡ p.main → below ≡ [] → record (root p) { top = record (root p).top { function = f }; below = below } ≡ root p
root_by p f below is none =
    ap₂ (λ (g : ℕ) (b : List Frame). record (root p) { top = record (root p).top { function = g }; below = b }) is none

pub returns : goal.returns
returns c =
    let p : ProgramText = c.args.program.now in
    let m : MachineState = start p c.args.field_limit in
    let tasks : c.push.new.self ≡ root p ∷ [] = c.in_ok-push.ensures.ok ∙ ap₂ (λ (ts : List Task) (x : Task). ts ++ x ∷ []) c.new-tasks.ensures (root_by p c.main.result c.new.result c.main.ensures c.new.ensures) in
    let store : c.push-2.new.self ≡ [] ∷ [] = c.in_ok-push-2.ensures.ok ∙ ap₂ (λ (ss : List (List Object)) (x : List Object). ss ++ x ∷ []) c.new-store.ensures c.new-2.ensures in
    ap₂ (λ (ts : List Task) (ss : List (List Object)). record m { tasks = ts; store = ss; edges = c.new-3.result; outputs = c.new-4.result }) tasks store
    ∙ ap₂ (λ e o. record m { edges = e; outputs = o }) c.new-3.ensures c.new-4.ensures
