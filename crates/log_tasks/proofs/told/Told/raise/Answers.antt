use Rattle.log_tasks.proofs.Common.{◌==◌, ◌∙◌, ℕ, ap, sym, cond, Option, Some, top_told}
use Rattle.log_tasks.proofs.Puts.{top_back}
use Rattle.log_tasks.proofs.told.Told.raise.Goals as goal

pub returns-in_ok-insert-clause-tops : goal.returns-in_ok-insert-clause-tops
returns-in_ok-insert-clause-tops c = λ t.
    c.in_ok-insert.ensures.updates.0 t
    ∙ ap (λ (o : Option ℕ). cond (c.args.strand.task == t) (Some c.in-Some.top) o) (c.in_ok-before.ensures.updates.0 t)
    ∙ top_back (top_told c.args.self.now) c.args.strand c.in-Some.top (sym c.in_ok-before.ensures.old ∙ c.in-Some.is) c.if-strand-top.true t
