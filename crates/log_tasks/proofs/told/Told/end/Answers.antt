use Rattle.log_tasks.proofs.Common.{◌∙◌, ap, sym, cond, Some, is_some, is_that, StrandEnd, Option}
use Rattle.log_tasks.proofs.Puts.{end_put, end_back}
use Rattle.log_tasks.proofs.told.Told.end.Goals as goal

pub returns-in_ok-insert-clause-ends : goal.returns-in_ok-insert-clause-ends
returns-in_ok-insert-clause-ends c = λ t i.
    c.in_ok-insert.ensures.updates.0 (t, i)
    ∙ ap (λ (o : Option StrandEnd). cond (is_that c.args.strand t i) (Some c.in-Some.first) o) (c.in_ok-before.ensures.updates.0 (t, i))
    ∙ end_back c.args.self.now c.args.strand (Some c.args.end) c.in-Some.first (sym c.in_ok-before.ensures.old ∙ c.in-Some.is) t i

pub returns-in_default-clause-ends : goal.returns-in_default-clause-ends
returns-in_default-clause-ends c = λ t i.
    c.in_ok-before.ensures.updates.0 (t, i)
    ∙ end_put c.args.self.now c.args.strand (Some c.args.end) (ap is_some (sym c.in_ok-before.ensures.old ∙ c.in_default.is)) t i
