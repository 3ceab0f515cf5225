use Rattle.log_tasks.proofs.Common.{◌∙◌, ℕ, List, Bor, sym, at_some}
use Rattle.log_tasks.proofs.Lines.{first_told, next_told}
use Rattle.log_tasks.proofs.told.is_told.Goals as goal

pub returns-then-is_act : goal.returns-then-is_act
returns-then-is_act c =
    sym (first_told (λ (r : Bor (List ℕ)). r.now) c.next_line.result.1 c.lines.left.now c.next_line.result.0.now c.next_line.ensures.lines (sym c.is_act.ensures ∙ c.if-is_act.true))
    ∙ c.lines.invariant

pub lines-preserved : goal.lines-preserved
lines-preserved c =
    next_told c.lines.left.now c.next_line.result.0.now c.in-Some.rest.now
    (at_some (λ (r : Bor (List ℕ)). r.now) c.next_line.result.1 c.lines.left.now c.next_line.result.0.now c.in-Some.rest c.in-Some.is c.next_line.ensures.lines)
    (sym c.is_act.ensures ∙ c.if-is_act.false)
    ∙ c.lines.invariant
