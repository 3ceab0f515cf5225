use Rattle.log_weights.proofs.Common.{◌∙◌, ℕ, Option, Some, ap, sym, get, is_pair, is_that, cond, plus, or_none}
use Rattle.log_weights.proofs.Works.{work_put, work_put_twice, begun}
use Rattle.log_weights.proofs.units.StrandWork.add.Goals as goal

pub returns-in_ok-insert : goal.returns-in_ok-insert
returns-in_ok-insert c = λ t i.
    ap or_none (c.in_ok-insert.ensures.updates.0 (t, i) ∙ ap (λ (o : Option (Option ℕ)). cond (is_that c.args.strand t i) (Some c.plus.result) o) (c.in_ok-before.ensures.updates.0 (t, i)))
    ∙ work_put_twice c.args.strand (λ (u j : ℕ). get is_pair c.args.self.now.units (u, j)) c.args.units c.plus.result c.args.units
    (c.plus.ensures ∙ ap (λ (o : Option (Option ℕ)). plus (or_none o) c.args.units) (sym c.in-Some.is ∙ c.in_ok-before.ensures.old)) t i

pub returns-in_default : goal.returns-in_default
returns-in_default c = λ t i.
    ap or_none (c.in_ok-before.ensures.updates.0 (t, i))
    ∙ work_put c.args.strand (λ (u j : ℕ). get is_pair c.args.self.now.units (u, j)) c.args.units c.args.units
    (begun c.requires.0 (get is_pair c.args.self.now.units (c.args.strand.task, c.args.strand.index)) c.args.units (sym c.in_default.is ∙ c.in_ok-before.ensures.old) c.requires.1) t i
