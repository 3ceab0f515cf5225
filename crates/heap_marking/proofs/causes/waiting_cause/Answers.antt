use Rattle.heap_marking.proofs.Common.{◌≡◌, ℕ, Bool, true, false, Option, Some, None, List, slice_get, refl, sym, ap, ap₂, ◌∙◌, NotWaiting, Swept, refused_unless, TaskNode, state_of, SetOf, keeps_of, noted_in, is_state_waiting, waiting_cause_in}
use Rattle.heap_marking.proofs.causes.waiting_cause.Goals as goal

noted_keeps : (o : Option SetOf) → (noted_in o).keeps ≡ keeps_of o
noted_keeps None = refl
noted_keeps (Some s) = refl

cause_is : (tree : List TaskNode) (sets : List SetOf) (t : ℕ) {b : Bool} → is_state_waiting (state_of tree t) ≡ true → keeps_of (slice_get sets t) ≡ b → waiting_cause_in tree sets t ≡ refused_unless b Swept None
cause_is tree sets t e n = ap₂ (λ x y. refused_unless x NotWaiting (refused_unless y Swept None)) e (noted_keeps (slice_get sets t) ∙ n)

pub returns-then-not-is_waiting : goal.returns-then-not-is_waiting
returns-then-not-is_waiting c =
    let waits : is_state_waiting (state_of c.args.tree.now c.args.t) ≡ false = sym (ap is_state_waiting c.state.ensures) ∙ (sym c.is_waiting.ensures ∙ c.if-not-is_waiting.true) in
    sym (ap (λ b. refused_unless b NotWaiting (refused_unless (noted_in (slice_get c.args.task_slots.now.sets c.args.t)).keeps Swept None)) waits)

pub returns-then-keeps : goal.returns-then-keeps
returns-then-keeps c =
    let waits : is_state_waiting (state_of c.args.tree.now c.args.t) ≡ true = sym (ap is_state_waiting c.state.ensures) ∙ (sym c.is_waiting.ensures ∙ c.if-not-is_waiting.false) in
    sym (cause_is c.args.tree.now c.args.task_slots.now.sets c.args.t waits (sym c.keeps.ensures ∙ c.if-keeps.true))

pub returns-else-keeps : goal.returns-else-keeps
returns-else-keeps c =
    let waits : is_state_waiting (state_of c.args.tree.now c.args.t) ≡ true = sym (ap is_state_waiting c.state.ensures) ∙ (sym c.is_waiting.ensures ∙ c.if-not-is_waiting.false) in
    sym (cause_is c.args.tree.now c.args.task_slots.now.sets c.args.t waits (sym c.keeps.ensures ∙ c.if-keeps.false))
