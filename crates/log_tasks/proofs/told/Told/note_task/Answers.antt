use Rattle.log_tasks.proofs.Common.{◌≡◌, ◌<◌, ℕ, List, length, get_or, sym, subst, ◌∙◌}
use Rattle.log_tasks.proofs.Noted.{noted_there, noted_at}
use Rattle.log_tasks.proofs.told.Told.note_task.Goals as goal

pub returns-then-is_some-clause-tasks : goal.returns-then-is_some-clause-tasks
returns-then-is_some-clause-tasks c = noted_there c.args.self.now c.args.task (c.requires (sym c.is_some.ensures ∙ c.if-is_some.true))

pub returns-then-is_own_place-clause-tasks : goal.returns-then-is_own_place-clause-tasks
returns-then-is_own_place-clause-tasks c =
    let at = c.is_own_place.ensures c.if-is_own_place.true in
    let e = c.as_slice.ensures in
    noted_at c.args.self.now c.args.task (subst (λ (ns : List ℕ). c.args.task < length ns) e at.0) (subst (λ (ns : List ℕ). get_or ns c.args.task 0 ≡ c.args.task) e at.1)
